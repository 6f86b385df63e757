-- The rows that a cursor is opened over, or what refuses it, and the cursor over them.
use Rattle.std.specs.Prelude.{◌+◌, ◌++◌, List, length, Some, None, Ok, Err}
use Rattle.std.specs.declared.option.Option.{Option}
use Rattle.std.specs.declared.result.Result.{Result}
use Rattle.vec_base.specs.declared.refusal.Refusal.{Refusal}
use Rattle.vec_base.specs.declared.refusal.Refusal.TheVariants.{NoTable}
use Rattle.vec_base.specs.declared.value.Value.{Value}
use Rattle.row_model.specs.declared.request.Reply.{Reply}
use Rattle.row_model.specs.declared.request.Reply.TheVariants.{Cursor}
use Rattle.row_model.specs.declared.row.Named.{Named}
use Rattle.row_model.specs.declared.state.Session.{Session}
use Rattle.row_model.specs.declared.state.State.{State}
use Rattle.row_model.specs.declared.statement.Select.{Select}
use Rattle.row_model.specs.Answer.{answer}
use Rattle.row_model.specs.Check.{check_select}
use Rattle.row_model.specs.Limits.{over_cursors, over_cursor_numbers}
use Rattle.row_model.specs.Machine.{in_session, refused}
use Rattle.row_model.specs.RefusalOrder.{first}
use Rattle.row_model.specs.Step.{found, with_new_cursor}

-- the rows, unless they are refused
abbrev pub or_refused : Option Refusal → Result (List (List Value)) Refusal → Result (List (List Value)) Refusal
or_refused None rows = rows
or_refused (Some refusal) rows = Err refusal

-- of the table; first the statement's own faults, and then what is full
abbrev pub cursor_rows : Select → Option Refusal → Option Named → Result (List (List Value)) Refusal
cursor_rows select full None = Err NoTable
cursor_rows select full (Some named) = or_refused (check_select named.table.schema.columns select) (or_refused full (Ok (answer named.table select)))

-- what a SELECT gives to a new cursor of a session
abbrev pub rows_to : Select → State → Session → Result (List (List Value)) Refusal
rows_to select state session =
    cursor_rows select (first (over_cursors (length session.cursors + 1) ++ over_cursor_numbers (session.last_cursor + 1))) (found select.table state session)

-- a cursor over them
abbrev pub opened_over : State → Session → Result (List (List Value)) Refusal → Reply × State
opened_over state session (Err refusal) = refused state refusal
opened_over state session (Ok rows) = (Cursor (session.last_cursor + 1), in_session state (with_new_cursor rows session))

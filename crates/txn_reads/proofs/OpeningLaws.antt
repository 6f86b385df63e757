-- A cursor that is opened over the table that is seen.
use Rattle.std.proofs.Common.{◌≡◌, ◌+◌, ◌++◌, ℕ, List, length, Option, Some, None, sym, ap, ◌∙◌}
use Rattle.vec_base.specs.declared.refusal.Refusal.{Refusal}
use Rattle.vec_base.specs.declared.value.Value.{Value}
use Rattle.knn_plan.specs.Plans.{IsPlanFor, Planned}
use Rattle.row_model.specs.Answer.{answer}
use Rattle.row_model.specs.Check.{check_select}
use Rattle.row_model.specs.Limits.{over_cursor_numbers, over_cursors}
use Rattle.row_model.specs.Machine.{in_session, unless}
use Rattle.row_model.specs.RefusalOrder.{first, listed}
use Rattle.row_model.specs.Step.{cursor_opened, found, with_new_cursor}
use Rattle.row_model.specs.declared.request.Reply.{Reply}
use Rattle.row_model.specs.declared.request.Reply.TheVariants.{Cursor as CursorReply, Refused}
use Rattle.row_model.specs.declared.row.Table.{Table}
use Rattle.row_model.specs.declared.state.State.{State}
use Rattle.row_model.specs.declared.statement.Select.{Select}
use Rattle.shadow_records.specs.PlacedTables.{plain}
use Rattle.table_version.specs.Versions.{VersionState}
use Rattle.txn_reads.specs.SeenTables.{IsSeen}
use Rattle.txn_reads.specs.inner.CursorPlans.{IsPrepared}
use Rattle.txn_sessions.specs.Seen.{session_at, state_of}
use Rattle.txn_sessions.specs.declared.machine.Machine.{Machine}
use Rattle.txn_sessions.proofs.TurnLaws.{unless-none, unless-some}

-- what refuses one more cursor
abbrev room-refusals : Machine → ℕ → List Refusal
room-refusals machine at = over_cursors (length (session_at machine at).cursors + 1) ++ over_cursor_numbers ((session_at machine at).last_cursor + 1)

abbrev pub opened-over : Machine → ℕ → List (List Value) → Reply × State
opened-over machine at rows = (CursorReply ((session_at machine at).last_cursor + 1), in_session (state_of machine) (with_new_cursor rows (session_at machine at)))

abbrev pub opening-of : Machine → ℕ → Select → Reply × State
opening-of machine at select = cursor_opened select (state_of machine) (session_at machine at) (found select.table (state_of machine) (session_at machine at))

opened-is : (machine : Machine) (at : ℕ) (select : Select) (number : ℕ) (version : VersionState) → IsSeen machine at select.table number version →
    opening-of machine at select
    ≡ unless ((listed (check_select version.table.schema.columns select) ++ over_cursors (length (session_at machine at).cursors + 1)) ++ over_cursor_numbers ((session_at machine at).last_cursor + 1)) (state_of machine)
    (opened-over machine at (answer (plain version.table) select))
opened-is machine at select number version seen =
    ap (cursor_opened select (state_of machine) (session_at machine at)) seen.is
    ∙ ap (λ (t : Table). unless ((listed (check_select t.schema.columns select) ++ over_cursors (length (session_at machine at).cursors + 1)) ++ over_cursor_numbers ((session_at machine at).last_cursor + 1)) (state_of machine)
    (opened-over machine at (answer t select))) seen.same

-- by what the tests of the statement say
opened-by : (machine : Machine) (at : ℕ) (select : Select) (number : ℕ) (version : VersionState) (checked : Option Refusal) → IsSeen machine at select.table number version → check_select version.table.schema.columns select ≡ checked →
    opening-of machine at select
    ≡ unless ((listed checked ++ over_cursors (length (session_at machine at).cursors + 1)) ++ over_cursor_numbers ((session_at machine at).last_cursor + 1)) (state_of machine) (opened-over machine at (answer (plain version.table) select))
opened-by machine at select number version checked seen is =
    opened-is machine at select number version seen
    ∙ ap (λ o. unless ((listed o ++ over_cursors (length (session_at machine at).cursors + 1)) ++ over_cursor_numbers ((session_at machine at).last_cursor + 1)) (state_of machine) (opened-over machine at (answer (plain version.table) select))) is

pub refused-statement : (machine : Machine) (at : ℕ) (select : Select) (number : ℕ) (version : VersionState) (refusal : Refusal) → IsSeen machine at select.table number version → check_select version.table.schema.columns select ≡ Some refusal →
    opening-of machine at select ≡ (Refused refusal, state_of machine)
refused-statement machine at select number version refusal seen is = opened-by machine at select number version (Some refusal) seen is

pub refused-room : (machine : Machine) (at : ℕ) (select : Select) (number : ℕ) (version : VersionState) (plan : Planned) (refusal : Refusal) → IsSeen machine at select.table number version → IsPlanFor version.table.schema.columns plan → plan.select ≡ select →
    Some refusal ≡ first (room-refusals machine at) → opening-of machine at select ≡ (Refused refusal, state_of machine)
refused-room machine at select number version plan refusal seen planned same full =
    let columns = version.table.schema.columns in
    opened-by machine at select number version None seen (ap (check_select columns) (sym same) ∙ planned.checked)
    ∙ unless-some (room-refusals machine at) (state_of machine) (opened-over machine at (answer (plain version.table) select)) refusal full

pub opened-rows : (machine : Machine) (at number : ℕ) (plan : Planned) (prepared : IsPrepared machine at number plan) (rows : List (List Value)) → rows ≡ answer (plain prepared.version.table) plan.select →
    opening-of machine at plan.select ≡ opened-over machine at rows
opened-rows machine at number plan prepared rows is =
    opened-by machine at plan.select number prepared.version None prepared.seen prepared.planned.checked
    ∙ unless-none (room-refusals machine at) (state_of machine) (opened-over machine at (answer (plain prepared.version.table) plan.select)) (sym prepared.room)
    ∙ ap (opened-over machine at) (sym is)

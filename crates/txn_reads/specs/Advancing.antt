-- A cursor that is passed without a page.
use Rattle.std.specs.Prelude.{ℕ, drop, Option, Some, None}
use Rattle.vec_base.specs.declared.refusal.Refusal.TheVariants.{NoCursor}
use Rattle.row_model.specs.Machine.{in_session, refused, with_cursor}
use Rattle.row_model.specs.declared.request.Reply.{Reply}
use Rattle.row_model.specs.declared.request.Reply.TheVariants.{Done}
use Rattle.row_model.specs.declared.state.CursorRows.{CursorRows}
use Rattle.row_model.specs.declared.state.Session.{Session}
use Rattle.row_model.specs.declared.state.State.{State}

-- The next rows are passed. A page and then this are a fetch.
abbrev pub advanced : ℕ → State → Session → Option CursorRows → Reply × State
advanced count state session None = refused state NoCursor
advanced count state session (Some cursor) = (Done, in_session state (record session { cursors = with_cursor (record cursor { rows = drop count cursor.rows }) session.cursors }))

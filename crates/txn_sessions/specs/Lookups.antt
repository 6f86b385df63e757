-- Where sessions, marks and cursors stand.
use Rattle.std.specs.Prelude.{◌≡◌, ℕ, suc, ◌<◌, List, length, map, take, slice_set, Some}
use Rattle.std.specs.List.{remove}
use Rattle.row_model.specs.declared.state.CursorRows.{CursorRows}
use Rattle.row_model.specs.declared.state.Session.{Session}
use Rattle.row_model.specs.Machine.{before_mark, cursor_of, newest_mark, session_of, upto_mark, with_cursor, with_session, without_cursor, without_session}
use Rattle.txn_sessions.specs.declared.session.Mark.{Mark}
use Rattle.txn_sessions.specs.declared.session.OpenCursor.{OpenCursor}
use Rattle.txn_sessions.specs.declared.session.OpenSession.{OpenSession}
use Rattle.txn_sessions.specs.Seen.{Versions, cursor_seen, mark_seen, session_seen, sessions_seen}
use Rattle.txn_sessions.specs.Sessions.{cursor_at, mark_at, open_at}

-- the first session of its id stands there
pub record IsAt (sessions : List OpenSession) (at : ℕ) : Type 0 where
  pub within : at < length sessions
  pub put : (shelf : Versions) (new : Session) → new.id ≡ (open_at sessions at).id →
      with_session new (sessions_seen shelf sessions) ≡ slice_set (sessions_seen shelf sessions) at new
  pub gone : (shelf : Versions) → without_session (open_at sessions at).id (sessions_seen shelf sessions) ≡ remove (sessions_seen shelf sessions) at

-- the session of the id stands there
pub record IsOfId (id : ℕ) (sessions : List OpenSession) (at : ℕ) : Type 0 where
  pub first : IsAt sessions at
  pub same : (open_at sessions at).id ≡ id
  pub is : (shelf : Versions) → session_of id (sessions_seen shelf sessions) ≡ Some (session_seen shelf (open_at sessions at))

-- the newest mark of the name stands there
pub record IsMark (name : List ℕ) (marks : List Mark) (at : ℕ) : Type 0 where
  pub within : at < length marks
  pub is : (shelf : Versions) → newest_mark name (map (mark_seen shelf) marks) ≡ Some (mark_seen shelf (mark_at marks at))
  pub upto : (shelf : Versions) → upto_mark name (map (mark_seen shelf) marks) ≡ map (mark_seen shelf) (take (suc at) marks)
  pub before : (shelf : Versions) → before_mark name (map (mark_seen shelf) marks) ≡ map (mark_seen shelf) (take at marks)

-- the cursor of the number stands there
pub record IsCursor (number : ℕ) (cursors : List OpenCursor) (at : ℕ) : Type 0 where
  pub within : at < length cursors
  pub is : (shelf : Versions) → cursor_of number (map (cursor_seen shelf) cursors) ≡ Some (cursor_seen shelf (cursor_at cursors at))
  pub put : (shelf : Versions) (new : CursorRows) → new.number ≡ number →
      with_cursor new (map (cursor_seen shelf) cursors) ≡ slice_set (map (cursor_seen shelf) cursors) at new
  pub gone : (shelf : Versions) → without_cursor number (map (cursor_seen shelf) cursors) ≡ remove (map (cursor_seen shelf) cursors) at
  pub own : (cursor_at cursors at).number ≡ number

-- One cursor in place of another.
use Rattle.std.specs.Prelude.{◌≡◌, ℕ, slice_set}
use Rattle.txn_sessions.specs.declared.machine.Machine.{Machine}
use Rattle.txn_sessions.specs.declared.session.OpenCursor.{OpenCursor}
use Rattle.txn_sessions.specs.Sessions.{cursor_at, exchanged, open_at}

-- the cursor that stood at the place is given, and the other one stands there
pub record Exchanges (old : Machine) (at place : ℕ) (cursor taken : OpenCursor) (new : Machine) : Type 0 where
  pub given : taken ≡ cursor_at (open_at old.sessions.items at).cursors place
  pub shelf : new.shelf ≡ old.shelf
  pub held : new.held ≡ old.held
  pub commits : new.commits ≡ old.commits
  pub last_id : new.last_id ≡ old.last_id
  pub sessions : new.sessions.items ≡ slice_set old.sessions.items at (exchanged place cursor (open_at old.sessions.items at))

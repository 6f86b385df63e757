-- A cursor that was passed in its place.
use Rattle.std.specs.Prelude.{◌≡◌, ℕ, drop}
use Rattle.snapshot_cursor.specs.Left.{rows_left}
use Rattle.txn_sessions.specs.Exchanges.{Exchanges}
use Rattle.txn_sessions.specs.Seen.{rows_over}
use Rattle.txn_sessions.specs.declared.machine.Machine.{Machine}
use Rattle.txn_sessions.specs.declared.session.OpenCursor.{OpenCursor}
use Rattle.txn_sessions.specs.Seen.{Versions}

-- the cursor with so many rows less
pub record IsPassed (shelf : Versions) (count : ℕ) (old new : OpenCursor) : Type 0 where
  pub number : new.number ≡ old.number
  pub origin : new.origin ≡ old.origin
  pub rows : rows_left new.cursor (rows_over shelf old.origin) ≡ drop count (rows_left old.cursor (rows_over shelf old.origin))

pub record Passes (old : Machine) (at place count : ℕ) (new : Machine) : Type 0 where
  pub given : OpenCursor
  pub passed : OpenCursor
  pub exchanges : Exchanges old at place passed given new
  pub is : IsPassed old.shelf count given passed

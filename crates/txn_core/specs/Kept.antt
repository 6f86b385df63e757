-- What holds of an engine between two requests.
use Rattle.std.specs.Prelude.{IsTrue}
use Rattle.row_model.specs.Valid.{IsValidState}
use Rattle.txn_commits.specs.Ending.{Holds}
use Rattle.txn_commits.specs.Keeping.{Meanings}
use Rattle.txn_sessions.specs.Seen.{state_of}
use Rattle.txn_sessions.specs.Sound.{IsSound}
use Rattle.txn_sessions.specs.declared.machine.Machine.{Machine}

-- The machine is sound and its state valid; the keeper has told the end of its records, and has those of the committed tables.
pub record IsKept {K : Type 0} (M : Meanings K) (machine : Machine) (keeper : K) : Type 0 where
  pub sound : IsSound machine
  pub valid : IsValidState (state_of machine)
  pub told_all : IsTrue (M.ended keeper)
  pub holds : Holds M machine keeper

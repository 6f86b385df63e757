use Rattle.txn_commits.specs.Keeping.{meanings}
use Rattle.txn_core.specs.Kept.{IsKept}
use Rattle.txn_tests.proofs.places.repeat.Given as goal

abbrev pub invariant-loop : goal.invariant-loop
invariant-loop g l = IsKept (meanings g.K.Keeper.ended g.K.Keeper.tells g.K.Keeper.tables g.K.Keeper.faults g.K.Keeper.stopped g.K.Keeper.moment g.K.Keeper.stopped_since) l.machine l.keeper

-- The records so far are those that the keeper has given.
use Rattle.txn_commits.specs.Keeping.{meanings}
use Rattle.txn_core.specs.inner.Reading.{Reads}
use Rattle.txn_core.proofs.load.load.Given as goal

abbrev pub invariant-records : goal.invariant-records
invariant-records g l =
    Reads (meanings g.K.Keeper.ended g.K.Keeper.tells g.K.Keeper.tables g.K.Keeper.faults g.K.Keeper.stopped g.K.Keeper.moment g.K.Keeper.stopped_since) g.K.Keeper.left g.K.Keeper.last l.fn.keeper l.records l.keeper

use Rattle.txn_commits.specs.Keeping.{meanings}
use Rattle.txn_commits.proofs.KeepLaws.{keeps}
use Rattle.version_shelf.specs.OnShelf.{shown}
use Rattle.txn_commits.proofs.batch.keep.Goals as goal

pub returns-in-Ok-clause-next : goal.returns-in-Ok-clause-next
returns-in-Ok-clause-next g c =
    keeps (meanings g.K.Keeper.ended g.K.Keeper.tells g.K.Keeper.tables g.K.Keeper.faults g.K.Keeper.stopped g.K.Keeper.moment g.K.Keeper.stopped_since)
    (shown c.args.shelf.now c.args.old.now.places) (shown c.args.shelf.now c.args.next.now.places) c.args.keeper.now c.commit.new.self c.in-Ok.batch.changes
    (record { old_placed = c.versions_known.ensures; next_placed = c.versions_known-2.ensures; old_valid = c.requires.older; next_valid = c.requires.newer })
    c.in-Ok.ensures.turns c.commit.ensures.tells c.commit.ensures.clock c.requires.holds c.commit.ensures.during c.commit.result c.commit.ensures.made c.commit.ensures.stopped

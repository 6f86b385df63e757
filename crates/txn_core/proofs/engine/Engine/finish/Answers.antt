use Rattle.std.proofs.Common.{subst}
use Rattle.shadow_records.specs.StandsFor.{StandsFor}
use Rattle.txn_commits.proofs.StandLaws.{stands}
use Rattle.txn_core.specs.Engines.{At}
use Rattle.version_shelf.specs.OnShelf.{shown}
use Rattle.txn_core.proofs.engine.Engine.finish.Goals as goal

pub returns-clause-stands : goal.returns-clause-stands
returns-clause-stands g c told =
    subst (λ (e : At g.row.K.Denot). StandsFor (g.K.Keeper.tables c.self.inside.keeper) e.state.catalog) c.self.view_is
    (stands (g.K.Keeper.tables c.self.inside.keeper) (shown c.self.inside.machine.shelf c.self.inside.machine.held.places) c.versions_known.ensures c.self.invariant.valid.committed (c.self.invariant.holds told))

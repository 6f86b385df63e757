use Rattle.row_model.specs.declared.request.Request.TheVariants.{Fetch}
use Rattle.txn_commits.specs.Keeping.{meanings}
use Rattle.txn_core.proofs.EndLaws.{kept_by, served_by, turn-valid}
use Rattle.txn_sessions.specs.declared.turn.Turn.TheVariants.{Answered}
use Rattle.txn_core.proofs.engine.Engine.fetch.Goals as goal

pub finish-requires-clause-valid : goal.finish-requires-clause-valid
finish-requires-clause-valid g c = turn-valid c.self.inside.machine c.fetch_in.new.machine (Fetch c.args.session c.args.cursor c.args.count) (Answered c.fetch_in.result) c.self.invariant.valid tt c.fetch_in.ensures

pub invariant_of-self : goal.invariant_of-self
invariant_of-self g c = kept_by (meanings g.K.Keeper.ended g.K.Keeper.tells g.K.Keeper.tables g.K.Keeper.faults g.K.Keeper.stopped g.K.Keeper.moment g.K.Keeper.stopped_since) c.self.inside.machine c.fetch_in.new.machine c.finish.new.machine c.self.inside.keeper c.finish.new.keeper (Fetch c.args.session c.args.cursor c.args.count) (Answered c.fetch_in.result) c.finish.result tt c.self.invariant c.fetch_in.ensures c.finish.ensures

pub returns : goal.returns
returns g c = rw c.self.view_is at (served_by (meanings g.K.Keeper.ended g.K.Keeper.tells g.K.Keeper.tables g.K.Keeper.faults g.K.Keeper.stopped g.K.Keeper.moment g.K.Keeper.stopped_since) c.self.inside.machine c.fetch_in.new.machine c.finish.new.machine c.self.inside.keeper c.finish.new.keeper (Fetch c.args.session c.args.cursor c.args.count) (Answered c.fetch_in.result) c.finish.result c.fetch_in.ensures c.finish.ensures)

use Rattle.row_model.specs.declared.request.Request.TheVariants.{OpenSession}
use Rattle.txn_commits.specs.Keeping.{meanings}
use Rattle.txn_core.proofs.EndLaws.{kept_by, served_by, turn-valid}
use Rattle.txn_sessions.specs.declared.turn.Turn.TheVariants.{Answered}
use Rattle.txn_core.proofs.engine.Engine.open_session.Goals as goal

pub finish-requires-clause-valid : goal.finish-requires-clause-valid
finish-requires-clause-valid g c = turn-valid c.self.inside.machine c.open_session.new.self (OpenSession) (Answered c.open_session.result) c.self.invariant.valid tt c.open_session.ensures

pub invariant_of-self : goal.invariant_of-self
invariant_of-self g c = kept_by (meanings g.K.Keeper.ended g.K.Keeper.tells g.K.Keeper.tables g.K.Keeper.faults g.K.Keeper.stopped g.K.Keeper.moment g.K.Keeper.stopped_since) c.self.inside.machine c.open_session.new.self c.finish.new.machine c.self.inside.keeper c.finish.new.keeper (OpenSession) (Answered c.open_session.result) c.finish.result tt c.self.invariant c.open_session.ensures c.finish.ensures

pub returns : goal.returns
returns g c = rw c.self.view_is at (served_by (meanings g.K.Keeper.ended g.K.Keeper.tells g.K.Keeper.tables g.K.Keeper.faults g.K.Keeper.stopped g.K.Keeper.moment g.K.Keeper.stopped_since) c.self.inside.machine c.open_session.new.self c.finish.new.machine c.self.inside.keeper c.finish.new.keeper (OpenSession) (Answered c.open_session.result) c.finish.result c.open_session.ensures c.finish.ensures)

use Rattle.row_model.specs.declared.request.Request.TheVariants.{OpenSession}
use Rattle.txn_commits.specs.Keeping.{meanings}
use Rattle.txn_core.proofs.EndLaws.{kept_by, turn-valid}
use Rattle.txn_sessions.specs.declared.turn.Turn.TheVariants.{Answered}
use Rattle.txn_tests.proofs.places.open_one.Goals as goal

pub finish-requires-clause-valid : goal.finish-requires-clause-valid
finish-requires-clause-valid g c = turn-valid c.args.machine.now c.open_session.new.self (OpenSession) (Answered c.open_session.result) c.requires.valid tt c.open_session.ensures

pub returns : goal.returns
returns g c = kept_by (meanings g.K.Keeper.ended g.K.Keeper.tells g.K.Keeper.tables g.K.Keeper.faults g.K.Keeper.stopped g.K.Keeper.moment g.K.Keeper.stopped_since) c.args.machine.now c.open_session.new.self c.finish.new.machine c.args.keeper.now c.finish.new.keeper (OpenSession) (Answered c.open_session.result) c.finish.result tt c.requires c.open_session.ensures c.finish.ensures

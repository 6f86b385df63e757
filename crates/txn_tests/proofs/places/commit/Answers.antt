use Rattle.row_model.specs.declared.request.Request.TheVariants.{Execute}
use Rattle.txn_commits.specs.Keeping.{meanings}
use Rattle.txn_core.proofs.EndLaws.{kept_by, turn-ready, turn-valid}
use Rattle.txn_tests.proofs.places.commit.Goals as goal

pub finish-requires-clause-valid : goal.finish-requires-clause-valid
finish-requires-clause-valid g c = turn-valid c.args.machine.now c.turn_of-turn.new.machine (Execute c.args.session c.args.statement) c.turn_of-turn.result c.requires.kept.valid c.requires.formed c.turn_of-turn.ensures

pub finish-requires-clause-ready : goal.finish-requires-clause-ready
finish-requires-clause-ready g c = turn-ready c.args.machine.now c.turn_of-turn.new.machine (Execute c.args.session c.args.statement) c.turn_of-turn.result c.requires.kept.valid c.requires.formed c.turn_of-turn.ensures

pub returns : goal.returns
returns g c = kept_by (meanings g.K.Keeper.ended g.K.Keeper.tells g.K.Keeper.tables g.K.Keeper.faults g.K.Keeper.stopped g.K.Keeper.moment g.K.Keeper.stopped_since) c.args.machine.now c.turn_of-turn.new.machine c.finish.new.machine c.args.keeper.now c.finish.new.keeper (Execute c.args.session c.args.statement) c.turn_of-turn.result c.finish.result c.requires.formed c.requires.kept c.turn_of-turn.ensures c.finish.ensures

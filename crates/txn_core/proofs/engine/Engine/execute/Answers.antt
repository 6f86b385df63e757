use Rattle.std.proofs.Common.{◌≡◌, None, subst}
use Rattle.row_model.specs.declared.request.Reply.{Reply}
use Rattle.row_model.specs.Step.{answer_of}
use Rattle.run_commits.specs.Commits.{commit_of}
use Rattle.txn_core.specs.Engines.{At}
use Rattle.txn_sessions.specs.Seen.{state_of}
use Rattle.row_model.specs.declared.request.Request.TheVariants.{Execute}
use Rattle.txn_commits.specs.Keeping.{meanings}
use Rattle.txn_core.specs.Counting.{CountsStatement, InSession}
use Rattle.txn_core.proofs.CountLaws.{finished}
use Rattle.txn_core.proofs.EndLaws.{free_by, kept_by, served_by, turn-ready, turn-valid}
use Rattle.txn_core.proofs.engine.Engine.execute.Goals as goal

pub finish-requires-clause-valid : goal.finish-requires-clause-valid
finish-requires-clause-valid g c = turn-valid c.self.inside.machine c.execute_turn-turn.new.machine (Execute c.args.session c.args.statement) c.execute_turn-turn.result c.self.invariant.valid c.requires.formed c.execute_turn-turn.ensures.turn

pub finish-requires-clause-ready : goal.finish-requires-clause-ready
finish-requires-clause-ready g c = turn-ready c.self.inside.machine c.execute_turn-turn.new.machine (Execute c.args.session c.args.statement) c.execute_turn-turn.result c.self.invariant.valid c.requires.formed c.execute_turn-turn.ensures.turn

pub invariant_of-self : goal.invariant_of-self
invariant_of-self g c = kept_by (meanings g.K.Keeper.ended g.K.Keeper.tells g.K.Keeper.tables g.K.Keeper.faults g.K.Keeper.stopped g.K.Keeper.moment g.K.Keeper.stopped_since) c.self.inside.machine c.execute_turn-turn.new.machine c.finish.new.machine c.self.inside.keeper c.finish.new.keeper (Execute c.args.session c.args.statement) c.execute_turn-turn.result c.finish.result c.requires.formed c.self.invariant c.execute_turn-turn.ensures.turn c.finish.ensures

pub returns-clause-served : goal.returns-clause-served
returns-clause-served g c = rw c.self.view_is at (served_by (meanings g.K.Keeper.ended g.K.Keeper.tells g.K.Keeper.tables g.K.Keeper.faults g.K.Keeper.stopped g.K.Keeper.moment g.K.Keeper.stopped_since) c.self.inside.machine c.execute_turn-turn.new.machine c.finish.new.machine c.self.inside.keeper c.finish.new.keeper (Execute c.args.session c.args.statement) c.execute_turn-turn.result c.finish.result c.execute_turn-turn.ensures.turn c.finish.ensures)

pub returns-clause-free : goal.returns-clause-free
returns-clause-free g c free =
    subst (λ (e : At g.row.K.Denot). commit_of e.state (Execute c.args.session c.args.statement) c.finish.result ≡ None → answer_of e.state (Execute c.args.session c.args.statement) ≡ (c.finish.result, state_of c.finish.new.machine)) c.self.view_is
    (free_by (meanings g.K.Keeper.ended g.K.Keeper.tells g.K.Keeper.tables g.K.Keeper.faults g.K.Keeper.stopped g.K.Keeper.moment g.K.Keeper.stopped_since) c.self.inside.machine c.execute_turn-turn.new.machine c.finish.new.machine c.self.inside.keeper c.finish.new.keeper (Execute c.args.session c.args.statement) c.execute_turn-turn.result c.finish.result (c.execute_turn-turn.ensures.free free) c.finish.ensures)

pub returns-clause-counts : goal.returns-clause-counts
returns-clause-counts g c =
    subst (λ (e : At g.row.K.Denot). InSession e.state c.args.session (λ s. CountsStatement e.state s c.args.statement c.args.workers c.finish.result c.args.steps.now c.execute_turn-turn.new.steps)) c.self.view_is
    (finished (meanings g.K.Keeper.ended g.K.Keeper.tells g.K.Keeper.tables g.K.Keeper.faults g.K.Keeper.stopped g.K.Keeper.moment g.K.Keeper.stopped_since)
    (λ (reply : Reply). InSession (state_of c.self.inside.machine) c.args.session (λ s. CountsStatement (state_of c.self.inside.machine) s c.args.statement c.args.workers reply c.args.steps.now c.execute_turn-turn.new.steps))
    c.execute_turn-turn.new.machine c.finish.new.machine c.self.inside.keeper c.finish.new.keeper c.execute_turn-turn.result c.finish.result c.execute_turn-turn.ensures.counts c.finish.ensures)

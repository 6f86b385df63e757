use Rattle.std.proofs.Common.{◌∙◌, ap, sym, subst}
use Rattle.row_model.specs.declared.request.Reply.{Reply}
use Rattle.txn_reads.specs.Searches.{Counts}
use Rattle.txn_core.specs.Engines.{At}
use Rattle.row_model.specs.declared.request.Request.TheVariants.{OpenCursor}
use Rattle.txn_commits.specs.Keeping.{meanings}
use Rattle.txn_core.specs.Counting.{InSession}
use Rattle.txn_core.proofs.CountLaws.{finished}
use Rattle.txn_core.proofs.EndLaws.{free-step, kept_by, served_by, turn-valid}
use Rattle.row_model.specs.Step.{answer_of}
use Rattle.txn_sessions.specs.Seen.{state_of}
use Rattle.txn_sessions.specs.declared.turn.Turn.TheVariants.{Answered}
use Rattle.txn_core.proofs.engine.Engine.open_cursor.Goals as goal

pub finish-requires-clause-valid : goal.finish-requires-clause-valid
finish-requires-clause-valid g c = turn-valid c.self.inside.machine c.open_cursor_in.new.machine (OpenCursor c.args.session c.args.select) (Answered c.open_cursor_in.result) c.self.invariant.valid c.requires.formed c.open_cursor_in.ensures.turn

pub invariant_of-self : goal.invariant_of-self
invariant_of-self g c = kept_by (meanings g.K.Keeper.ended g.K.Keeper.tells g.K.Keeper.tables g.K.Keeper.faults g.K.Keeper.stopped g.K.Keeper.moment g.K.Keeper.stopped_since) c.self.inside.machine c.open_cursor_in.new.machine c.finish.new.machine c.self.inside.keeper c.finish.new.keeper (OpenCursor c.args.session c.args.select) (Answered c.open_cursor_in.result) c.finish.result c.requires.formed c.self.invariant c.open_cursor_in.ensures.turn c.finish.ensures

pub returns-clause-served : goal.returns-clause-served
returns-clause-served g c = rw c.self.view_is at (served_by (meanings g.K.Keeper.ended g.K.Keeper.tells g.K.Keeper.tables g.K.Keeper.faults g.K.Keeper.stopped g.K.Keeper.moment g.K.Keeper.stopped_since) c.self.inside.machine c.open_cursor_in.new.machine c.finish.new.machine c.self.inside.keeper c.finish.new.keeper (OpenCursor c.args.session c.args.select) (Answered c.open_cursor_in.result) c.finish.result c.open_cursor_in.ensures.turn c.finish.ensures)

pub returns-clause-free : goal.returns-clause-free
returns-clause-free g c plain =
    ap (λ (e : At g.row.K.Denot). answer_of e.state (OpenCursor c.args.session c.args.select)) (sym c.self.view_is)
    ∙ free-step (meanings g.K.Keeper.ended g.K.Keeper.tells g.K.Keeper.tables g.K.Keeper.faults g.K.Keeper.stopped g.K.Keeper.moment g.K.Keeper.stopped_since) c.self.inside.machine c.open_cursor_in.new.machine c.finish.new.machine c.self.inside.keeper c.finish.new.keeper (answer_of (state_of c.self.inside.machine) (OpenCursor c.args.session c.args.select)) c.open_cursor_in.result c.finish.result (c.open_cursor_in.ensures.free plain) c.finish.ensures

pub returns-clause-counts : goal.returns-clause-counts
returns-clause-counts g c =
    subst (λ (e : At g.row.K.Denot). InSession e.state c.args.session (λ s. Counts e.state s c.args.select c.args.workers c.finish.result c.args.steps.now c.open_cursor_in.new.steps)) c.self.view_is
    (finished (meanings g.K.Keeper.ended g.K.Keeper.tells g.K.Keeper.tables g.K.Keeper.faults g.K.Keeper.stopped g.K.Keeper.moment g.K.Keeper.stopped_since)
    (λ (reply : Reply). InSession (state_of c.self.inside.machine) c.args.session (λ s. Counts (state_of c.self.inside.machine) s c.args.select c.args.workers reply c.args.steps.now c.open_cursor_in.new.steps))
    c.open_cursor_in.new.machine c.finish.new.machine c.self.inside.keeper c.finish.new.keeper (Answered c.open_cursor_in.result) c.finish.result c.open_cursor_in.ensures.counts c.finish.ensures)

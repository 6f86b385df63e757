use Rattle.row_model.specs.Machine.{cursor_of, on_session}
use Rattle.txn_commits.specs.Keeping.{meanings}
use Rattle.txn_core.proofs.AdvanceLaws.{advanced-valid}
use Rattle.txn_core.proofs.EndLaws.{kept-takes}
use Rattle.txn_reads.specs.Advancing.{advanced}
use Rattle.txn_sessions.specs.Seen.{state_of}
use Rattle.txn_core.proofs.engine.Engine.advance.Goals as goal

pub invariant_of-self : goal.invariant_of-self
invariant_of-self g c =
    let old = c.self.inside.machine in
    kept-takes (meanings g.K.Keeper.ended g.K.Keeper.tells g.K.Keeper.tables g.K.Keeper.faults g.K.Keeper.stopped g.K.Keeper.moment g.K.Keeper.stopped_since) old c.advance_in.new.machine c.self.inside.keeper
    (on_session (state_of old) c.args.session (λ s. advanced c.args.count (state_of old) s (cursor_of c.args.cursor s.cursors))) c.advance_in.result c.self.invariant
    (advanced-valid (state_of old) (state_of c.advance_in.new.machine) c.args.session c.args.cursor c.args.count c.advance_in.result c.self.invariant.valid c.advance_in.ensures.step) c.advance_in.ensures

use Rattle.txn_sessions.proofs.SweepLaws.{sweeps-more}
use Rattle.txn_sessions.proofs.machine.Machine.sweep.Goals as goal

pub loop-place-preserved : goal.loop-place-preserved
loop-place-preserved c = sweeps-more c.args.self.now _ c.free_unnamed.new.self c.loop-place.place c.loop-place.invariant c.free_unnamed.ensures

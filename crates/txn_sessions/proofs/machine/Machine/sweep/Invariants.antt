use Rattle.txn_sessions.specs.Sweeps.{SweepsTo}
use Rattle.txn_sessions.proofs.machine.Machine.sweep.Given as goal

abbrev pub invariant-loop-place : goal.invariant-loop-place
invariant-loop-place l = SweepsTo l.place l.initial.self l.self

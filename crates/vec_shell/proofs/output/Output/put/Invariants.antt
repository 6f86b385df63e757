use Rattle.std.proofs.Common.{length, ◌-◌, ◌≤◌, take}
use Rattle.vec_shell.specs.inner.Puts.{Puts}
use Rattle.vec_shell.proofs.output.Output.put.Given as goal

abbrev pub invariant-loop-at : goal.invariant-loop-at
invariant-loop-at g l = record {
  within : l.at ≤ length l.part;
  puts : Puts (take l.at l.part) l.fn.self (g.O.Sink.taken l.fn.sink) (g.O.Sink.faults l.fn.sink) l.self (g.O.Sink.taken l.sink) (g.O.Sink.faults l.sink);
}

abbrev pub decreases-loop-at : goal.decreases-loop-at
decreases-loop-at g l = length l.part - l.at

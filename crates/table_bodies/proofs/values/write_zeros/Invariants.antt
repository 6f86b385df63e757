use Rattle.std.proofs.Common.{◌≡◌, ◌++◌, replicate}
use Rattle.table_bodies.proofs.values.write_zeros.Given as goal

abbrev pub invariant-loop : goal.invariant-loop
invariant-loop l = l.body ≡ l.fn.body ++ replicate l.counter 0

use Rattle.std.proofs.Common.{◌≤◌}
use Rattle.vec_literal.proofs.usual_int8.few_commas_in.Given as goal

abbrev pub invariant-loop-byte : goal.invariant-loop-byte
invariant-loop-byte l = l.commas ≤ l.byte-index

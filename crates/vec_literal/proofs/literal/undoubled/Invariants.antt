-- What is taken, and what is left, make the whole.
use Rattle.std.proofs.Common.{◌≡◌, ◌≤◌, ◌++◌, false, length}
use Rattle.vec_literal.specs.LiteralValues.{undoubled}
use Rattle.vec_literal.proofs.literal.undoubled.Given as goal

abbrev pub invariant-loop-left : goal.invariant-loop-left
invariant-loop-left l = record {
  inside : length l.left ≤ length l.fn.quoted;
  whole : l.bytes.items ++ undoubled false l.left ≡ undoubled false l.fn.quoted;
}

abbrev pub decreases-loop-left : goal.decreases-loop-left
decreases-loop-left l = length l.left

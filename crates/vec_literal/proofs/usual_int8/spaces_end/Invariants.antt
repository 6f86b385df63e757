-- All bytes so far are spaces.
use Rattle.std.proofs.Common.{◌≡◌, ℕ, ◌≤◌, ◌<◌, ◌-◌, length, slice_index}
use Rattle.vec_literal.proofs.usual_int8.spaces_end.Given as goal

abbrev pub invariant-loop-at : goal.invariant-loop-at
invariant-loop-at l = record {
  inside : l.at ≤ length l.text;
  passed : l.from ≤ l.at;
  spaces : (k : ℕ) → l.from ≤ k → k < l.at → slice_index l.text k ≡ 32;
}

abbrev pub decreases-loop-at : goal.decreases-loop-at
decreases-loop-at l = length l.text - l.at

use Rattle.std.proofs.Common.{ℕ, ◌≤◌, ◌<◌, ◌-◌, length, get_or}
use Rattle.shared_leaves.proofs.leaves.first_above.Given as goal

abbrev pub invariant-loop-low : goal.invariant-loop-low
invariant-loop-low l = record {
  in_range : (l.low ≤ l.high) × (l.high ≤ length l.ends);
  front : (k : ℕ) → k < l.low → get_or l.ends k 0 ≤ l.index;
  back : (k : ℕ) → l.high ≤ k → k < length l.ends → l.index < get_or l.ends k 0;
}

abbrev pub decreases-loop-low : goal.decreases-loop-low
decreases-loop-low l = l.high - l.low

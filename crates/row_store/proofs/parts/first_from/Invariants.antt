use Rattle.std.proofs.Common.{ℕ, ◌≤◌, ◌<◌, ◌-◌, length}
use Rattle.row_store.specs.inner.Parts.{number_at}
use Rattle.row_store.proofs.parts.first_from.Given as goal

abbrev pub invariant-loop-low : goal.invariant-loop-low
invariant-loop-low l = record {
  in_range : (l.low ≤ l.high) × (l.high ≤ length l.parts);
  front : (k : ℕ) → k < l.low → number_at l.parts k < l.number;
  back : (k : ℕ) → l.high ≤ k → k < length l.parts → l.number ≤ number_at l.parts k;
}

abbrev pub decreases-loop-low : goal.decreases-loop-low
decreases-loop-low l = l.high - l.low

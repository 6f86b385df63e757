use Rattle.std.proofs.Common.{◌≡◌, ◌≤◌, ◌-◌, length, Less, Greater}
use Rattle.std.specs.List.{AllWithin}
use Rattle.row_index.proofs.search.search.Given as goal

abbrev pub invariant-loop-low : goal.invariant-loop-low
invariant-loop-low g l = record {
  in_range : (l.low ≤ l.high) × (l.high ≤ length l.items);
  below : AllWithin (λ x. g.K.Key.compared l.key x ≡ Less) l.items 0 l.low;
  above : AllWithin (λ x. g.K.Key.compared l.key x ≡ Greater) l.items l.high (length l.items);
}

abbrev pub decreases-loop-low : goal.decreases-loop-low
decreases-loop-low g l = l.high - l.low

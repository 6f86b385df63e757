use Rattle.std.proofs.Common.{◌≡◌, ◌≤◌, ◌-◌, length}
use Rattle.metadata_chunks.specs.inner.Filtering.{kept_until}
use Rattle.metadata_chunks.proofs.cells.keep_passing.Given as goal

abbrev pub invariant-loop-slot : goal.invariant-loop-slot
invariant-loop-slot g l = record {
  within : l.from ≤ length l.cells;
  size : length l.keep ≡ length l.cells;
  kept : l.keep ≡ kept_until l.from (g.C.Test.passed l.test) l.cells l.fn.keep;
}

abbrev pub decreases-loop-slot : goal.decreases-loop-slot
decreases-loop-slot g l = length l.cells - l.from

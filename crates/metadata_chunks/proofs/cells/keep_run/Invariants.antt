use Rattle.std.proofs.Common.{◌≡◌, length}
use Rattle.metadata_chunks.specs.inner.Filtering.{GoesOn}
use Rattle.metadata_chunks.proofs.cells.keep_run.Given as goal

abbrev pub invariant-loop-slot : goal.invariant-loop-slot
invariant-loop-slot g l = record {
  size : length l.keep ≡ length l.cells;
  kept : GoesOn (g.C.Test.passed l.test) l.cells l.fn.from l.fn.keep l.slot l.keep;
}

use Rattle.std.proofs.Common.{◌≡◌, take}
use Rattle.row_chunks.specs.inner.CellColumns.{kinds_in, HaveSize}
use Rattle.row_chunks.proofs.row_chunk.first_columns.Given as goal

abbrev pub invariant-loop-kind : goal.invariant-loop-kind
invariant-loop-kind l = record {
  kinds : kinds_in l.columns.items ≡ take l.kind-index l.kinds;
  sizes : HaveSize l.size l.columns.items;
}

use Rattle.std.proofs.Common.{◌≡◌, take}
use Rattle.chunk_slots.specs.inner.Columns.{widths_of, HaveSize}
use Rattle.chunk_slots.proofs.chunk.zero_columns.Given as goal

abbrev pub invariant-loop-width : goal.invariant-loop-width
invariant-loop-width l = record {
  widths : widths_of l.columns.items ≡ take l.width-index l.widths;
  sizes : HaveSize l.size l.columns.items;
}

use Rattle.std.proofs.Common.{◌≡◌, take}
use Rattle.chunk_slots.specs.Slots.{zero_vectors}
use Rattle.chunk_slots.specs.inner.Columns.{widths_of, vectors_at, KeepsOthers}
use Rattle.chunk_slots.proofs.chunk.clear_row.Given as goal

abbrev pub invariant-loop-index : goal.invariant-loop-index
invariant-loop-index l = record {
  kept : KeepsOthers l.slot l.initial.columns l.columns;
  row : take l.index (vectors_at l.columns l.slot) ≡ take l.index (zero_vectors (widths_of l.initial.columns));
}

use Rattle.std.proofs.Common.{◌≡◌, take, length}
use Rattle.chunk_slots.specs.Slots.{vectors_of}
use Rattle.chunk_slots.specs.inner.Columns.{vectors_at, KeepsOthers}
use Rattle.chunk_slots.proofs.chunk.write_row.Given as goal

abbrev pub invariant-loop-value : goal.invariant-loop-value
invariant-loop-value l = record {
  kept : KeepsOthers l.slot l.initial.columns l.columns;
  column : l.column ≡ length (vectors_of (take l.value-index l.values));
  row : take l.column (vectors_at l.columns l.slot) ≡ vectors_of (take l.value-index l.values);
}

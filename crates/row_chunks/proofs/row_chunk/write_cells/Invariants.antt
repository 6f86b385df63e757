use Rattle.row_chunks.specs.inner.CellColumns.{kinds_in, cells_at, KeepsOthers}
use Rattle.row_chunks.proofs.WriteLaws.{IsWritten}
use Rattle.row_chunks.proofs.row_chunk.write_cells.Given as goal

abbrev pub invariant-loop-index : goal.invariant-loop-index
invariant-loop-index l = record {
  kept : KeepsOthers l.slot l.initial.cells l.cells;
  written : IsWritten l.next l.index (kinds_in l.initial.cells) l.columns l.values (cells_at l.cells l.slot);
}

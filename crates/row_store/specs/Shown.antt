-- What a store shows of its rows.
use Rattle.std.specs.Prelude.{ℤ}
use Rattle.std.specs.Option.{option_copied}
use Rattle.row_chunks.specs.RowSlots.{UsedRow, slot_at, vectors_in, cells_in}
use Rattle.row_store.specs.StoredRows.{StoredRow}
use Rattle.row_store.specs.declared.readers.RowRef.{RowRef}

-- the row of a rowid
abbrev pub shown : ℤ → RowRef → StoredRow
shown rowid row = record {
  rowid = rowid;
  chunk = row.chunk;
  slot = row.slot;
  id = option_copied row.id;
  partition = row.partition.now;
  vectors = vectors_in (slot_at row.slots.now row.slot);
  cells = cells_in (slot_at row.slots.now row.slot);
}

-- what a slot holds of its row
abbrev pub held_of : StoredRow → UsedRow
held_of row = record { rowid = row.rowid; vectors = row.vectors; cells = row.cells }

-- What a change of one row makes of it, and of what its slot holds.
use Rattle.std.specs.Prelude.{◌≡◌, ℕ, ◌<◌, true, List, length, slice_get, slice_index, Option, is_some}
use Rattle.row_model.specs.declared.schema.Kind.{Kind}
use Rattle.row_chunks.specs.Cells.{takes_value}
use Rattle.row_chunks.specs.RowSlots.{UsedRow, slot_at, with_vector as with_slot_vector, with_cell as with_slot_cell}
use Rattle.row_store.specs.StoredRows.{StoredRow, with_vector, with_cell}
use Rattle.row_store.specs.declared.part.Part.{Part}
use Rattle.row_store.specs.declared.part.RowChange.{RowChange}
use Rattle.row_store.specs.declared.part.RowChange.TheVariants.{Vector, Cell}

abbrev pub row_changed : RowChange → StoredRow → StoredRow
row_changed (Vector column vector) row = with_vector column vector.now row
row_changed (Cell index value) row = with_cell index value.now row

abbrev pub slot_changed : RowChange → Option UsedRow → Option UsedRow
slot_changed (Vector column vector) content = with_slot_vector column vector.now content
slot_changed (Cell index value) content = with_slot_cell index value.now content

-- the vector has the width of its column, and the cell can hold the value
abbrev pub Fits : List ℕ → List Kind → RowChange → Type 0
Fits widths kinds (Vector column vector) = (column < length widths) × (length vector.now ≡ slice_index widths column)
Fits widths kinds (Cell index value) = takes_value (slice_get kinds index) value.now ≡ true

-- the slot is used, and the change fits
pub record CanChange (slot : ℕ) (change : RowChange) (p : Part) : Type 0 where
  pub used : is_some (slot_at p.slots slot) ≡ true
  pub fits : Fits p.slots.widths p.slots.kinds change

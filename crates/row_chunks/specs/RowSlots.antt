-- Slots, each free or used by a row with its vectors and its cells.
use Rattle.std.specs.Prelude.{◌≡◌, ℕ, ℤ, true, List, [], map, replicate, Option, None, Some, slice_index_or, slice_set}
use Rattle.std.specs.Option.{option_map}
use Rattle.vec_base.specs.declared.value.Value.{Value}
use Rattle.vec_base.specs.declared.value.Value.TheVariants.{Null}
use Rattle.row_model.specs.declared.schema.Kind.{Kind}
use Rattle.chunk_slots.specs.Slots.{Slots, UsedSlot}
use Rattle.row_chunks.specs.Cells.{are_cell_values}

pub record UsedRow : Type 0 where
  pub rowid : ℤ
  pub vectors : List (List ℕ)
  pub cells : List Value

-- the bytes of a vector of each vector column, the kinds of the columns that have cells, and the slots
pub record RowSlots : Type 0 where
  pub widths : List ℕ
  pub kinds : List Kind
  pub slots : List (Option UsedRow)

abbrev pub used_by : ℤ → List (List ℕ) → List Value → Option UsedRow
used_by rowid vectors cells = Some (record { rowid = rowid; vectors = vectors; cells = cells })

abbrev pub slot_at : RowSlots → ℕ → Option UsedRow
slot_at chunk slot = slice_index_or chunk.slots slot None

abbrev pub vectors_in : Option UsedRow → List (List ℕ)
vectors_in None = []
vectors_in (Some used) = used.vectors

abbrev pub cells_in : Option UsedRow → List Value
cells_in None = []
cells_in (Some used) = used.cells

-- the cell of a slot in the column of an index among those that have cells
abbrev pub cell_at : RowSlots → ℕ → ℕ → Value
cell_at chunk slot index = slice_index_or (cells_in (slot_at chunk slot)) index Null

-- no slot is used
abbrev pub all_free : ℕ → List ℕ → List Kind → RowSlots
all_free size widths kinds = record { widths = widths; kinds = kinds; slots = replicate size None }

-- the chunk with other content of a slot
abbrev pub with_slot : ℕ → Option UsedRow → RowSlots → RowSlots
with_slot slot content chunk = record { widths = chunk.widths; kinds = chunk.kinds; slots = slice_set chunk.slots slot content }

-- the content of a slot with another vector in a vector column
abbrev pub with_vector : ℕ → List ℕ → Option UsedRow → Option UsedRow
with_vector column vector None = None
with_vector column vector (Some used) = used_by used.rowid (slice_set used.vectors column vector) used.cells

-- the content of a slot with another value in a cell
abbrev pub with_cell : ℕ → Value → Option UsedRow → Option UsedRow
with_cell index value None = None
with_cell index value (Some used) = used_by used.rowid used.vectors (slice_set used.cells index value)

-- a slot without its cells
abbrev pub vectors_alone : UsedRow → UsedSlot
vectors_alone used = record { rowid = used.rowid; vectors = used.vectors }

-- the slots without their cells
abbrev pub plain_slots : RowSlots → Slots
plain_slots chunk = record { widths = chunk.widths; slots = map (λ slot. option_map vectors_alone slot) chunk.slots }

-- the cells of each used slot are ones that its columns can hold
abbrev pub HoldCells : RowSlots → Type 0
HoldCells chunk = (slot : ℕ) (used : UsedRow) → slot_at chunk slot ≡ Some used → are_cell_values chunk.kinds used.cells ≡ true

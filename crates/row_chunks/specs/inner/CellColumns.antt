-- Columns of cells beside the slots with their vectors. The cells of free slots are not seen.
use Rattle.std.specs.Prelude.{◌≡◌, ℕ, zero, suc, ◌<◌, List, [], ◌∷◌, length, map, Option, None, Some, slice_index_or, slice_set}
use Rattle.std.specs.List.{All}
use Rattle.vec_base.specs.declared.value.Value.{Value}
use Rattle.vec_base.specs.declared.value.Value.TheVariants.{Null}
use Rattle.row_model.specs.declared.schema.Kind.{Kind}
use Rattle.chunk_slots.specs.Slots.{Slots, UsedSlot}
use Rattle.row_chunks.specs.RowSlots.{UsedRow, RowSlots, used_by}

-- a value for each slot
pub record CellList : Type 0 where
  pub kind : Kind
  pub cells : List Value

-- the column with another value for a slot
abbrev pub column_with : ℕ → Value → CellList → CellList
column_with slot value column = record { kind = column.kind; cells = slice_set column.cells slot value }

abbrev pub kinds_in : List CellList → List Kind
kinds_in columns = map (λ column. column.kind) columns

-- for how many slots each column has a value
abbrev pub sizes_of : List CellList → List ℕ
sizes_of columns = map (λ column. length column.cells) columns

-- the cells of a slot
abbrev pub cells_at : List CellList → ℕ → List Value
cells_at columns slot = map (λ column. slice_index_or column.cells slot Null) columns

-- each column has a value for the slot
abbrev pub HaveSlot : ℕ → List CellList → Type 0
HaveSlot slot columns = All (λ size. slot < size) (sizes_of columns)

-- each column has so many values
abbrev pub HaveSize : ℕ → List CellList → Type 0
HaveSize count columns = All (λ size. size ≡ count) (sizes_of columns)

-- what a slot holds that is free or has vectors
abbrev pub row_in : List CellList → ℕ → Option UsedSlot → Option UsedRow
row_in columns slot None = None
row_in columns slot (Some used) = used_by used.rowid used.vectors (cells_at columns slot)

-- the slots from one on
abbrev pub rows_from : List CellList → ℕ → List (Option UsedSlot) → List (Option UsedRow)
rows_from columns slot [] = []
rows_from columns slot (used ∷ slots) = row_in columns slot used ∷ rows_from columns (suc slot) slots

abbrev pub rows_of : List CellList → Slots → RowSlots
rows_of columns chunk = record { widths = chunk.widths; kinds = kinds_in columns; slots = rows_from columns zero chunk.slots }

-- what stays of columns where only the cells of one slot change
pub record KeepsOthers (slot : ℕ) (before after : List CellList) : Type 0 where
  pub kinds : kinds_in after ≡ kinds_in before
  pub sizes : sizes_of after ≡ sizes_of before
  pub others : (other : ℕ) → (other ≡ slot → ⊥) → cells_at after other ≡ cells_at before other

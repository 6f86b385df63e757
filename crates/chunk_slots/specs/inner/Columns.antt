-- The vector columns of a chunk beside the rowids of its slots.
use Rattle.std.specs.Prelude.{◌≡◌, ℕ, zero, suc, ◌<◌, ℤ, List, [], ◌∷◌, length, map, Option, None, Some, slice_index_or}
use Rattle.std.specs.List.{All}
use Rattle.chunk_slots.specs.Slots.{UsedSlot, Slots, used_by}
use Rattle.chunk_slots.specs.inner.Blocks.{VectorColumn}

abbrev pub widths_of : List VectorColumn → List ℕ
widths_of columns = map (λ column. column.width) columns

-- for how many slots each column has a vector
abbrev pub sizes_of : List VectorColumn → List ℕ
sizes_of columns = map (λ column. length column.vectors) columns

-- the vectors of a slot
abbrev pub vectors_at : List VectorColumn → ℕ → List (List ℕ)
vectors_at columns slot = map (λ column. slice_index_or column.vectors slot []) columns

-- each column has a vector for the slot
abbrev pub HaveSlot : ℕ → List VectorColumn → Type 0
HaveSlot slot columns = All (λ size. slot < size) (sizes_of columns)

-- each column has so many vectors
abbrev pub HaveSize : ℕ → List VectorColumn → Type 0
HaveSize count columns = All (λ size. size ≡ count) (sizes_of columns)

-- what a slot holds that has a rowid or is free
abbrev pub slot_in : List VectorColumn → ℕ → Option ℤ → Option UsedSlot
slot_in columns slot None = None
slot_in columns slot (Some rowid) = used_by rowid (vectors_at columns slot)

-- the slots from one on, by their rowids
abbrev pub slots_from : List VectorColumn → ℕ → List (Option ℤ) → List (Option UsedSlot)
slots_from columns slot [] = []
slots_from columns slot (row ∷ rows) = slot_in columns slot row ∷ slots_from columns (suc slot) rows

abbrev pub chunk_of : List VectorColumn → List (Option ℤ) → Slots
chunk_of columns rows = record { widths = widths_of columns; slots = slots_from columns zero rows }

-- what stays of columns where only the vectors of one slot change
pub record KeepsOthers (slot : ℕ) (before after : List VectorColumn) : Type 0 where
  pub widths : widths_of after ≡ widths_of before
  pub sizes : sizes_of after ≡ sizes_of before
  pub others : (other : ℕ) → (other ≡ slot → ⊥) → vectors_at after other ≡ vectors_at before other

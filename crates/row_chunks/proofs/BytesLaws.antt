-- The bytes of the texts and blobs of a slot, column by column.
use Rattle.std.proofs.Common.{◌≡◌, ◌<◌, ◌+◌, ℕ, suc, List, ◌∷◌, length, ap, arith}
use Rattle.std.specs.Prelude.{slice_index_or, sum_by}
use Rattle.std.proofs.lemmas.List.Sums.{sum_by-cons}
use Rattle.vec_base.specs.declared.value.Value.TheVariants.{Null}
use Rattle.row_model.specs.Values.{side_bytes}
use Rattle.row_chunks.specs.inner.CellColumns.{CellList, cells_at, HaveSlot}

pub bytes_step : (slot : ℕ) (column : CellList) (columns : List CellList) →
    sum_by side_bytes (cells_at (column ∷ columns) slot) ≡ side_bytes (slice_index_or column.cells slot Null) + sum_by side_bytes (cells_at columns slot)
bytes_step slot column columns = sum_by-cons side_bytes (slice_index_or column.cells slot Null) (cells_at columns slot)

pub slot_in_first : (slot : ℕ) (column : CellList) (columns : List CellList) → HaveSlot slot (column ∷ columns) → slot < length column.cells
slot_in_first slot column columns have = have 0 0 (omega arith)

pub slot_in_others : (slot : ℕ) (column : CellList) (columns : List CellList) → HaveSlot slot (column ∷ columns) → HaveSlot slot columns
slot_in_others slot column columns have = λ k d low. have (suc k) d (omega (arith, low))

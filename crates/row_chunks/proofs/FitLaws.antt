-- The cells of used slots fit their columns, also after a change of a slot.
use Rattle.std.proofs.Common.{◌≡◌, ℕ, zero, suc, true, List, [], ◌∷◌, get_or, set, slice_get, Option, Some, None, refl, sym, ap, ◌∙◌, inl, inr, ◌⊎◌, replicate, ℤ}
use Rattle.std.proofs.lemmas.Bool.{and_parts, and_from}
use Rattle.vec_base.specs.declared.value.Value.{Value}
use Rattle.row_model.specs.declared.schema.Kind.{Kind}
use Rattle.row_chunks.specs.Cells.{is_cell_value, are_cell_values, takes_value}
use Rattle.row_chunks.specs.RowSlots.{UsedRow, RowSlots, used_by, all_free, with_slot, with_vector, with_cell, HoldCells}

-- an element of a list with one changed is the new one, or as before
set_either : {A : Type 0} (xs : List A) (i j : ℕ) (new d : A) → (get_or (set xs i new) j d ≡ new) ⊎ (get_or (set xs i new) j d ≡ get_or xs j d)
set_either [] i j new d = inr refl
set_either (x ∷ xs) zero zero new d = inl refl
set_either (x ∷ xs) zero (suc j) new d = inr refl
set_either (x ∷ xs) (suc i) zero new d = inr refl
set_either (x ∷ xs) (suc i) (suc j) new d = set_either xs i j new d

-- what a slot is to hold has cells that fit
abbrev pub Fits : List Kind → Option UsedRow → Type 0
Fits kinds content = (used : UsedRow) → content ≡ Some used → are_cell_values kinds used.cells ≡ true

pub fits_with : (slot : ℕ) (content : Option UsedRow) (chunk : RowSlots) → HoldCells chunk → Fits chunk.kinds content → HoldCells (with_slot slot content chunk)
fits_with slot content chunk fits new other used there = elim (set_either chunk.slots slot other content None) [
  | inl is ↦ new used (sym is ∙ there)
  | inr is ↦ fits other used (sym is ∙ there)
]

pub fits_none : (kinds : List Kind) → Fits kinds None
fits_none kinds used there = absurd cc

abbrev cells_or : List Value → Option UsedRow → List Value
cells_or cells None = cells
cells_or cells (Some used) = used.cells

pub fits_row : (kinds : List Kind) (rowid : ℤ) (vectors : List (List ℕ)) (cells : List Value) → are_cell_values kinds cells ≡ true → Fits kinds (used_by rowid vectors cells)
fits_row kinds rowid vectors cells fits used there = ap (λ content. are_cell_values kinds (cells_or cells content)) (sym there) ∙ fits

pub fits_vector : (kinds : List Kind) (i : ℕ) (v : List ℕ) (content : Option UsedRow) → Fits kinds content → Fits kinds (with_vector i v content)
fits_vector kinds i v None fits = fits_none kinds
fits_vector kinds i v (Some row) fits = fits_row kinds row.rowid (set row.vectors i v) row.cells (fits row refl)

cells_fit : (kinds : List Kind) (cells : List Value) (i : ℕ) (v : Value) → are_cell_values kinds cells ≡ true → takes_value (slice_get kinds i) v ≡ true → are_cell_values kinds (set cells i v) ≡ true
cells_fit [] [] i v fits takes = refl
cells_fit [] (cell ∷ cells) i v fits takes = absurd cc
cells_fit (kind ∷ kinds) [] i v fits takes = absurd cc
cells_fit (kind ∷ kinds) (cell ∷ cells) zero v fits takes =
    and_from (is_cell_value kind v) (are_cell_values kinds cells) takes (and_parts (is_cell_value kind cell) (are_cell_values kinds cells) fits).1
cells_fit (kind ∷ kinds) (cell ∷ cells) (suc i) v fits takes =
    let parts = and_parts (is_cell_value kind cell) (are_cell_values kinds cells) fits in
    and_from (is_cell_value kind cell) (are_cell_values kinds (set cells i v)) parts.0 (cells_fit kinds cells i v parts.1 takes)

pub fits_cell : (kinds : List Kind) (i : ℕ) (v : Value) (content : Option UsedRow) → Fits kinds content → takes_value (slice_get kinds i) v ≡ true → Fits kinds (with_cell i v content)
fits_cell kinds i v None fits takes = fits_none kinds
fits_cell kinds i v (Some row) fits takes = fits_row kinds row.rowid row.vectors (set row.cells i v) (cells_fit kinds row.cells i v (fits row refl) takes)

none_used : (count slot : ℕ) (used : UsedRow) → get_or (replicate count None) slot None ≡ Some used → ⊥
none_used zero slot used there = absurd cc
none_used (suc count) zero used there = absurd cc
none_used (suc count) (suc slot) used there = none_used count slot used there

pub fits_free : (count : ℕ) (widths : List ℕ) (kinds : List Kind) → HoldCells (all_free count widths kinds)
fits_free count widths kinds slot used there = absurd (none_used count slot used there)

-- The cells among a row's values, written one after another.
use Rattle.std.proofs.Common.{◌≡◌, ◌<◌, ◌≤◌, ◌+◌, ◌++◌, ℕ, zero, suc, true, false, List, [], ◌∷◌, length, take, drop, get_or, refl, sym, ap, ap₂, ◌∙◌, arith, append_assoc, inl, inr}
use Rattle.std.proofs.lemmas.Bool.{and_parts, cases_lt}
use Rattle.std.proofs.lemmas.List.{drop_more, drop_all, get_or-map, length-drop, append-nil, take_all}
use Rattle.vec_base.specs.declared.value.Value.{Value}
use Rattle.row_model.specs.declared.schema.Column.{Column}
use Rattle.row_model.specs.declared.schema.Kind.{Kind}
use Rattle.row_model.specs.declared.schema.Kind.TheVariants.{IntMeta}
use Rattle.row_chunks.specs.Cells.{is_cell, is_cell_value, kinds_of, cells_of, are_cell_values}
use Rattle.row_chunks.specs.inner.CellColumns.{CellList, kinds_in, cells_at, KeepsOthers}
use Rattle.row_chunks.proofs.ColumnLaws.{count_kept}
use Rattle.row_chunks.proofs.RowCells.{kind_front, cell_front, kind_past, cell_past}

-- so many cells stand for the first values, and the others are to come
pub record IsWritten (next k : ℕ) (kinds : List Kind) (columns : List Column) (values cells : List Value) : Type 0 where
  pub kinds_left : drop next kinds ≡ kinds_of (drop k columns)
  pub fits : are_cell_values (kinds_of (drop k columns)) (cells_of (drop k columns) (drop k values)) ≡ true
  pub told : take next cells ++ cells_of (drop k columns) (drop k values) ≡ cells_of columns values

pub begun : (kinds : List Kind) (columns : List Column) (values cells : List Value) → kinds_of columns ≡ kinds → are_cell_values kinds (cells_of columns values) ≡ true → IsWritten 0 0 kinds columns values cells
begun kinds columns values cells same fits = record { kinds_left = sym same; fits = ap (λ ks. are_cell_values ks (cells_of columns values)) same ∙ fits; told = refl }

-- the element behind those that were dropped
within_drop : {A : Type 0} (n : ℕ) (xs : List A) (x : A) (rest : List A) → drop n xs ≡ x ∷ rest → n < length xs
within_drop zero [] x rest is = absurd cc
within_drop (suc n) [] x rest is = absurd cc
within_drop zero (y ∷ ys) x rest is = omega arith
within_drop (suc n) (y ∷ ys) x rest is = omega (arith, within_drop n ys x rest is)

abbrev first : {A : Type 0} → A → List A → A
first d [] = d
first d (x ∷ xs) = x

abbrev past : {A : Type 0} → List A → List A
past [] = []
past (x ∷ xs) = xs

next_dropped : {A : Type 0} (n : ℕ) (xs : List A) (d x : A) (rest : List A) → drop n xs ≡ x ∷ rest → (get_or xs n d ≡ x) × (drop (n + 1) xs ≡ rest)
next_dropped n xs d x rest is =
    let all = sym (drop_more xs n d (within_drop n xs x rest is)) ∙ is in
    (ap (first d) all, ap past all)

module _ (next k : ℕ) (columns : List Column) (c : Column) (values : List Value) (v : Value) (k_c : k < length columns) (k_v : k < length values) where
  abbrev column : Column
  column = get_or columns k c

  abbrev value : Value
  value = get_or values k v

  cells_left : cells_of (drop k columns) (drop k values) ≡ cells_of (column ∷ drop (k + 1) columns) (value ∷ drop (k + 1) values)
  cells_left = ap₂ cells_of (drop_more columns k c k_c) (drop_more values k v k_v)

  fits_left : {kinds : List Kind} {cells : List Value} → IsWritten next k kinds columns values cells →
      are_cell_values (kinds_of (column ∷ drop (k + 1) columns)) (cells_of (column ∷ drop (k + 1) columns) (value ∷ drop (k + 1) values)) ≡ true
  fits_left at = sym (ap₂ (λ cs vs. are_cell_values (kinds_of cs) (cells_of cs vs)) (drop_more columns k c k_c) (drop_more values k v k_v)) ∙ at.fits

  -- where the column has cells, its kind is the next one
  kind_next : (kinds : List Kind) (cells : List Value) → IsWritten next k kinds columns values cells → is_cell column.kind ≡ true → drop next kinds ≡ column.kind ∷ kinds_of (drop (k + 1) columns)
  kind_next kinds cells at cell = at.kinds_left ∙ ap kinds_of (drop_more columns k c k_c) ∙ kind_front column (drop (k + 1) columns) cell

  fits_next : (kinds : List Kind) (cells : List Value) → IsWritten next k kinds columns values cells → is_cell column.kind ≡ true →
      are_cell_values (column.kind ∷ kinds_of (drop (k + 1) columns)) (value ∷ cells_of (drop (k + 1) columns) (drop (k + 1) values)) ≡ true
  fits_next kinds cells at cell =
      sym (ap₂ are_cell_values (kind_front column (drop (k + 1) columns) cell) (cell_front column (drop (k + 1) columns) value (drop (k + 1) values) cell)) ∙ fits_left at

  pub cell_there : (slot : ℕ) (before after : List CellList) → KeepsOthers slot before after → IsWritten next k (kinds_in before) columns values (cells_at after slot) → is_cell column.kind ≡ true → next < length after
  cell_there slot before after kept at cell =
      omega (arith, count_kept slot before after kept, within_drop next (kinds_in before) column.kind (kinds_of (drop (k + 1) columns)) (kind_next (kinds_in before) (cells_at after slot) at cell))

  pub cell_takes : (slot : ℕ) (before after : List CellList) (d : CellList) → KeepsOthers slot before after → IsWritten next k (kinds_in before) columns values (cells_at after slot) → is_cell column.kind ≡ true →
      is_cell_value (get_or after next d).kind value ≡ true
  cell_takes slot before after d kept at cell =
      let cells = cells_at after slot in
      let kind = (next_dropped next (kinds_in before) IntMeta column.kind (kinds_of (drop (k + 1) columns)) (kind_next (kinds_in before) cells at cell)).0 in
      ap (λ kind. is_cell_value kind value) (sym (get_or-map (λ column. column.kind) after next d IntMeta (cell_there slot before after kept at cell)) ∙ ap (λ kinds. get_or kinds next IntMeta) kept.kinds ∙ kind)
      ∙ (and_parts (is_cell_value column.kind value) (are_cell_values (kinds_of (drop (k + 1) columns)) (cells_of (drop (k + 1) columns) (drop (k + 1) values))) (fits_next (kinds_in before) cells at cell)).0

  -- one cell more
  pub cell_written : (kinds : List Kind) (cells after : List Value) → IsWritten next k kinds columns values cells → is_cell column.kind ≡ true → take (next + 1) after ≡ take next cells ++ value ∷ [] →
      IsWritten (next + 1) (k + 1) kinds columns values after
  cell_written kinds cells after at cell more =
      let rest = cells_of (drop (k + 1) columns) (drop (k + 1) values) in
      record {
        kinds_left = (next_dropped next kinds IntMeta column.kind (kinds_of (drop (k + 1) columns)) (kind_next kinds cells at cell)).1;
        fits = (and_parts (is_cell_value column.kind value) (are_cell_values (kinds_of (drop (k + 1) columns)) rest) (fits_next kinds cells at cell)).1;
        told =
            ap (λ front. front ++ rest) more
            ∙ append_assoc (take next cells) (value ∷ []) rest
            ∙ ap (λ back. take next cells ++ back) (sym (cells_left ∙ cell_front column (drop (k + 1) columns) value (drop (k + 1) values) cell))
            ∙ at.told;
      }

  -- a value of a column that has no cells
  pub value_left_out : (kinds : List Kind) (cells : List Value) → IsWritten next k kinds columns values cells → is_cell column.kind ≡ false → IsWritten next (k + 1) kinds columns values cells
  value_left_out kinds cells at none = record {
    kinds_left = at.kinds_left ∙ ap kinds_of (drop_more columns k c k_c) ∙ kind_past column (drop (k + 1) columns) none;
    fits =
        sym (ap₂ are_cell_values (kind_past column (drop (k + 1) columns) none) (cell_past column (drop (k + 1) columns) value (drop (k + 1) values) none)) ∙ fits_left at;
    told = ap (λ back. take next cells ++ back) (sym (cells_left ∙ cell_past column (drop (k + 1) columns) value (drop (k + 1) values) none)) ∙ at.told;
  }

no_cells : (columns : List Column) → cells_of columns [] ≡ []
no_cells [] = refl
no_cells (_ ∷ _) = refl

no_values : (columns : List Column) (values : List Value) (k : ℕ) → (k < length columns → length values ≤ k) → cells_of (drop k columns) (drop k values) ≡ []
no_values columns values k short = elim (cases_lt k (length columns)) [
  | inl lt ↦ ap (cells_of (drop k columns)) (drop_all k values (short lt)) ∙ no_cells (drop k columns)
  | inr le ↦ ap (λ cs. cells_of cs (drop k values)) (drop_all k columns le)
]

no_kinds : (kinds : List Kind) → are_cell_values kinds [] ≡ true → kinds ≡ []
no_kinds [] fits = refl
no_kinds (kind ∷ kinds) fits = absurd cc

-- all values are gone through
pub all_written : (next k : ℕ) (kinds : List Kind) (columns : List Column) (values cells : List Value) → IsWritten next k kinds columns values cells → length cells ≡ length kinds → (k < length columns → length values ≤ k) →
    cells ≡ cells_of columns values
all_written next k kinds columns values cells at same short =
    let none = no_values columns values k short in
    let kinds_none = at.kinds_left ∙ no_kinds (kinds_of (drop k columns)) (ap (are_cell_values (kinds_of (drop k columns))) (sym none) ∙ at.fits) in
    let left = ap length kinds_none in
    let all = take_all next cells (omega (arith, same, left, length-drop next kinds)) in
    sym (append-nil cells) ∙ ap₂ (λ front back. front ++ back) (sym all) (sym none) ∙ at.told

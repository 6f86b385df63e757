-- The cells among the values of a row: their kinds and places, and what a change of a value makes of them.
use Rattle.std.proofs.Common.{◌≡◌, ◌<◌, ℕ, zero, suc, ℤ, Bool, true, false, cond, List, [], ◌∷◌, length, take, get_or, set, slice_get, Some, refl, sym, ap, ap₂, ◌∙◌, arith}
use Rattle.std.specs.List.{list_all}
use Rattle.std.proofs.lemmas.Bool.{and_parts, and_from}
use Rattle.vec_base.specs.declared.value.Value.{Value}
use Rattle.vec_base.specs.declared.value.Value.TheVariants.{Null}
use Rattle.row_model.specs.Valid.{is_valid_value, are_valid_values}
use Rattle.row_model.specs.declared.schema.Column.{Column}
use Rattle.row_model.specs.declared.schema.Kind.{Kind}
use Rattle.row_model.specs.declared.schema.Kind.TheVariants.{IntKey, TextKey, Int8Vector, BitVector, IntPartition, TextPartition, IntMeta, TextMeta, BoolMeta, IntAux, TextAux, BlobAux}
use Rattle.row_chunks.specs.Cells.{is_cell, is_cell_value, kinds_of, cells_of, are_cell_values}

-- ---- the first column

pub kind_front : (column : Column) (columns : List Column) → is_cell column.kind ≡ true → kinds_of (column ∷ columns) ≡ column.kind ∷ kinds_of columns
kind_front column columns cell = ap (λ b. cond b (column.kind ∷ kinds_of columns) (kinds_of columns)) cell

pub cell_front : (column : Column) (columns : List Column) (value : Value) (values : List Value) → is_cell column.kind ≡ true → cells_of (column ∷ columns) (value ∷ values) ≡ value ∷ cells_of columns values
cell_front column columns value values cell = ap (λ b. cond b (value ∷ cells_of columns values) (cells_of columns values)) cell

pub kind_past : (column : Column) (columns : List Column) → is_cell column.kind ≡ false → kinds_of (column ∷ columns) ≡ kinds_of columns
kind_past column columns none = ap (λ b. cond b (column.kind ∷ kinds_of columns) (kinds_of columns)) none

pub cell_past : (column : Column) (columns : List Column) (value : Value) (values : List Value) → is_cell column.kind ≡ false → cells_of (column ∷ columns) (value ∷ values) ≡ cells_of columns values
cell_past column columns value values none = ap (λ b. cond b (value ∷ cells_of columns values) (cells_of columns values)) none

-- ---- values that fit

pub length_fits : (kinds : List Kind) (cells : List Value) → are_cell_values kinds cells ≡ true → length cells ≡ length kinds
length_fits [] [] fits = refl
length_fits [] (cell ∷ cells) fits = absurd cc
length_fits (kind ∷ kinds) [] fits = absurd cc
length_fits (kind ∷ kinds) (cell ∷ cells) fits = ap suc (length_fits kinds cells (and_parts (is_cell_value kind cell) (are_cell_values kinds cells) fits).1)

-- what a column with cells holds of a row, its cell can hold
pub valid_cell : (kind : Kind) (rowid : ℤ) (value : Value) → is_cell kind ≡ true → is_valid_value kind rowid value ≡ is_cell_value kind value
valid_cell IntKey rowid value cell = absurd cc
valid_cell TextKey rowid value cell = refl
valid_cell (Int8Vector width metric) rowid value cell = refl
valid_cell (BitVector width) rowid value cell = refl
valid_cell IntPartition rowid value cell = refl
valid_cell TextPartition rowid value cell = refl
valid_cell IntMeta rowid value cell = refl
valid_cell TextMeta rowid value cell = refl
valid_cell BoolMeta rowid value cell = refl
valid_cell IntAux rowid value cell = refl
valid_cell TextAux rowid value cell = refl
valid_cell BlobAux rowid value cell = refl

first_valid : (b : Bool) (column : Column) (columns : List Column) (rowid : ℤ) (value : Value) (values : List Value) → is_cell column.kind ≡ b → is_valid_value column.kind rowid value ≡ true →
    are_cell_values (kinds_of columns) (cells_of columns values) ≡ true → are_cell_values (kinds_of (column ∷ columns)) (cells_of (column ∷ columns) (value ∷ values)) ≡ true
first_valid true column columns rowid value values cell first rest =
    ap₂ are_cell_values (kind_front column columns cell) (cell_front column columns value values cell)
    ∙ and_from (is_cell_value column.kind value) (are_cell_values (kinds_of columns) (cells_of columns values)) (sym (valid_cell column.kind rowid value cell) ∙ first) rest
first_valid false column columns rowid value values none first rest = ap₂ are_cell_values (kind_past column columns none) (cell_past column columns value values none) ∙ rest

-- the cells of a valid row are ones that its columns can hold
pub valid_cells : (columns : List Column) (rowid : ℤ) (values : List Value) → are_valid_values columns rowid values ≡ true → are_cell_values (kinds_of columns) (cells_of columns values) ≡ true
valid_cells [] rowid [] valid = refl
valid_cells [] rowid (value ∷ values) valid = absurd cc
valid_cells (column ∷ columns) rowid [] valid = absurd cc
valid_cells (column ∷ columns) rowid (value ∷ values) valid =
    let parts = and_parts (is_valid_value column.kind rowid value) (are_valid_values columns rowid values) valid in
    first_valid (is_cell column.kind) column columns rowid value values refl parts.0 (valid_cells columns rowid values parts.1)

first_cell : (b : Bool) (column : Column) (columns : List Column) → is_cell column.kind ≡ b → list_all is_cell (kinds_of columns) ≡ true → list_all is_cell (kinds_of (column ∷ columns)) ≡ true
first_cell true column columns cell rest = ap (list_all is_cell) (kind_front column columns cell) ∙ and_from (is_cell column.kind) (list_all is_cell (kinds_of columns)) cell rest
first_cell false column columns none rest = ap (list_all is_cell) (kind_past column columns none) ∙ rest

pub all_cells : (columns : List Column) → list_all is_cell (kinds_of columns) ≡ true
all_cells [] = refl
all_cells (column ∷ columns) = first_cell (is_cell column.kind) column columns refl (all_cells columns)

-- ---- the cell of a column, behind those of the columns before it

abbrev pub cells_before : ℕ → List Column → ℕ
cells_before k columns = length (kinds_of (take k columns))

kind_behind : (b : Bool) (column : Column) (columns : List Column) (k : ℕ) (kind : Kind) → is_cell column.kind ≡ b → slice_get (kinds_of columns) (cells_before k columns) ≡ Some kind →
    slice_get (kinds_of (column ∷ columns)) (length (kinds_of (column ∷ take k columns))) ≡ Some kind
kind_behind true column columns k kind cell there = ap₂ slice_get (kind_front column columns cell) (ap length (kind_front column (take k columns) cell)) ∙ there
kind_behind false column columns k kind none there = ap₂ slice_get (kind_past column columns none) (ap length (kind_past column (take k columns) none)) ∙ there

pub kind_of_cell : (columns : List Column) (k : ℕ) (d : Column) → k < length columns → is_cell (get_or columns k d).kind ≡ true → slice_get (kinds_of columns) (cells_before k columns) ≡ Some (get_or columns k d).kind
kind_of_cell [] k d lt cell = absurd (omega (arith, lt))
kind_of_cell (column ∷ columns) zero d lt cell = ap (λ kinds. slice_get kinds 0) (kind_front column columns cell)
kind_of_cell (column ∷ columns) (suc k) d lt cell = kind_behind (is_cell column.kind) column columns k (get_or columns k d).kind refl (kind_of_cell columns k d (omega (arith, lt)) cell)

cell_behind : (b : Bool) (column : Column) (columns : List Column) (value : Value) (values : List Value) (k : ℕ) (v : Value) → is_cell column.kind ≡ b → get_or (cells_of columns values) (cells_before k columns) Null ≡ v →
    get_or (cells_of (column ∷ columns) (value ∷ values)) (length (kinds_of (column ∷ take k columns))) Null ≡ v
cell_behind true column columns value values k v cell there =
    ap₂ (λ cells n. get_or cells n Null) (cell_front column columns value values cell) (ap length (kind_front column (take k columns) cell)) ∙ there
cell_behind false column columns value values k v none there =
    ap₂ (λ cells n. get_or cells n Null) (cell_past column columns value values none) (ap length (kind_past column (take k columns) none)) ∙ there

-- a value of a row is in the cell of its column
pub cell_of_value : (columns : List Column) (values : List Value) (k : ℕ) (d : Column) → length values ≡ length columns → k < length columns → is_cell (get_or columns k d).kind ≡ true →
    get_or (cells_of columns values) (cells_before k columns) Null ≡ get_or values k Null
cell_of_value [] values k d same lt cell = absurd (omega (arith, lt))
cell_of_value (column ∷ columns) [] k d same lt cell = absurd (omega (arith, same))
cell_of_value (column ∷ columns) (value ∷ values) zero d same lt cell = ap (λ cells. get_or cells 0 Null) (cell_front column columns value values cell)
cell_of_value (column ∷ columns) (value ∷ values) (suc k) d same lt cell =
    cell_behind (is_cell column.kind) column columns value values k (get_or values k Null) refl (cell_of_value columns values k d (omega (arith, same)) (omega (arith, lt)) cell)

change_behind : (b : Bool) (column : Column) (columns : List Column) (value : Value) (values after : List Value) (k : ℕ) (v : Value) → is_cell column.kind ≡ b → cells_of columns after ≡ set (cells_of columns values) (cells_before k columns) v →
    cells_of (column ∷ columns) (value ∷ after) ≡ set (cells_of (column ∷ columns) (value ∷ values)) (length (kinds_of (column ∷ take k columns))) v
change_behind true column columns value values after k v cell made =
    cell_front column columns value after cell
    ∙ ap (λ cells. value ∷ cells) made
    ∙ sym (ap₂ (λ cells n. set cells n v) (cell_front column columns value values cell) (ap length (kind_front column (take k columns) cell)))
change_behind false column columns value values after k v none made =
    cell_past column columns value after none ∙ made ∙ sym (ap₂ (λ cells n. set cells n v) (cell_past column columns value values none) (ap length (kind_past column (take k columns) none)))

-- another value of a column with cells changes its cell alone
pub cell_changed : (columns : List Column) (values : List Value) (k : ℕ) (d : Column) (v : Value) → length values ≡ length columns → k < length columns → is_cell (get_or columns k d).kind ≡ true →
    cells_of columns (set values k v) ≡ set (cells_of columns values) (cells_before k columns) v
cell_changed [] values k d v same lt cell = absurd (omega (arith, lt))
cell_changed (column ∷ columns) [] k d v same lt cell = absurd (omega (arith, same))
cell_changed (column ∷ columns) (value ∷ values) zero d v same lt cell = cell_front column columns v values cell ∙ ap (λ cells. set cells 0 v) (sym (cell_front column columns value values cell))
cell_changed (column ∷ columns) (value ∷ values) (suc k) d v same lt cell =
    change_behind (is_cell column.kind) column columns value values (set values k v) k v refl (cell_changed columns values k d v (omega (arith, same)) (omega (arith, lt)) cell)

same_behind : (b : Bool) (column : Column) (columns : List Column) (value : Value) (values after : List Value) → is_cell column.kind ≡ b → cells_of columns after ≡ cells_of columns values →
    cells_of (column ∷ columns) (value ∷ after) ≡ cells_of (column ∷ columns) (value ∷ values)
same_behind true column columns value values after cell same = cell_front column columns value after cell ∙ ap (λ cells. value ∷ cells) same ∙ sym (cell_front column columns value values cell)
same_behind false column columns value values after none same = cell_past column columns value after none ∙ same ∙ sym (cell_past column columns value values none)

-- another value of a column without cells changes none
pub cells_kept : (columns : List Column) (values : List Value) (k : ℕ) (d : Column) (v : Value) → is_cell (get_or columns k d).kind ≡ false → cells_of columns (set values k v) ≡ cells_of columns values
cells_kept [] values k d v none = refl
cells_kept (column ∷ columns) [] k d v none = refl
cells_kept (column ∷ columns) (value ∷ values) zero d v none = cell_past column columns v values none ∙ sym (cell_past column columns value values none)
cells_kept (column ∷ columns) (value ∷ values) (suc k) d v none = same_behind (is_cell column.kind) column columns value values (set values k v) refl (cells_kept columns values k d v none)

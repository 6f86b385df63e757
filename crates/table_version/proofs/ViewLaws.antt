-- What stands in a column of a stored row.
use Rattle.std.proofs.Common.{◌≡◌, ℕ, zero, suc, ℤ, ◌+◌, ◌<◌, Bool, true, false, cond, List, [], ◌∷◌, ◌∙◌, refl, sym, ap, subst, arith, length, Option, Some, None}
use Rattle.std.specs.Prelude.{◌-◌, is_some, slice_index_or}
use Rattle.std.specs.List.{list_all, slice_get, AllByRecursion}
use Rattle.std.specs.Option.{option_map}
use Rattle.std.proofs.lemmas.Bool.{and_parts}
use Rattle.std.proofs.Math.ListN.{get_or-map}
use Rattle.vec_base.specs.declared.value.Value.{Value}
use Rattle.vec_base.specs.declared.value.Value.TheVariants.{Null, Int, Text, Int8, Bits}
use Rattle.chunk_slots.specs.Slots.{UsedSlot, slot_at as plain_at, vector_of, vector_at}
use Rattle.row_chunks.specs.Cells.{is_cell, kinds_of}
use Rattle.row_chunks.specs.RowSlots.{RowSlots, UsedRow, plain_slots, slot_at, vectors_alone, vectors_in}
use Rattle.row_model.specs.Groups.{before_in, kind_in}
use Rattle.row_model.specs.Schemas.{is_partition, is_vector}
use Rattle.row_model.specs.Valid.{is_valid_row}
use Rattle.row_model.specs.declared.schema.Column.{Column}
use Rattle.row_model.specs.declared.schema.Kind.{Kind}
use Rattle.row_model.specs.declared.schema.Kind.TheVariants.{IntKey, TextKey, Int8Vector, BitVector, IntPartition, TextPartition, IntMeta, TextMeta, BoolMeta, IntAux, TextAux, BlobAux}
use Rattle.row_store.specs.Shown.{shown}
use Rattle.row_store.specs.StoredRows.{StoredRow, row_of as stored_of}
use Rattle.row_store.specs.declared.readers.RowRef.{RowRef}
use Rattle.shadow_records.specs.PlacedTables.{plain_rows, row_of, value_in}
use Rattle.table_version.specs.Kept.{is_partition_value, widths_of}
use Rattle.table_version.specs.Viewed.{column_value, is_kind_of}
use Rattle.table_version.specs.inner.StoredTables.{kept_in, placed, placed_rows, GivesAgain}
use Rattle.table_version.specs.inner.Viewing.{viewed}
use Rattle.table_version.specs.inner.Weaving.{KeptValues, behind, id_text, next_value, next_vector, past, woven, woven_value}
use Rattle.table_version.proofs.StoredLaws.{found-one, placed-of}
use Rattle.table_version.proofs.WeavingLaws.{one_if, one_width, partition-values}

-- ---- the value in a column

-- by what stands at its place among partition values, vectors and cells
abbrev pub value_from : Kind → ℤ → Option (List ℕ) → Value → List ℕ → Value → Value
value_from IntKey rowid id value vector cell = Int rowid
value_from TextKey rowid id value vector cell = Text (id_text id)
value_from (Int8Vector width metric) rowid id value vector cell = Int8 vector
value_from (BitVector width) rowid id value vector cell = Bits vector
value_from IntPartition rowid id value vector cell = value
value_from TextPartition rowid id value vector cell = value
value_from _ rowid id value vector cell = cell

first_value : (values : List Value) → next_value values ≡ slice_index_or values 0 Null
first_value [] = refl
first_value (value ∷ values) = refl

first_vector : (vectors : List (List ℕ)) → next_vector vectors ≡ slice_index_or vectors 0 []
first_vector [] = refl
first_vector (vector ∷ vectors) = refl

later : {A : Type 0} (b : Bool) (xs : List A) (n : ℕ) (d : A) → slice_index_or (past b xs) n d ≡ slice_index_or xs (cond b (suc n) n) d
later false xs n d = refl
later true [] n d = refl
later true (x ∷ xs) n d = refl

first_from : (kind : Kind) (rowid : ℤ) (id : Option (List ℕ)) (kept : KeptValues) →
    woven_value kind rowid id kept ≡ value_from kind rowid id (slice_index_or kept.partition 0 Null) (slice_index_or kept.vectors 0 []) (slice_index_or kept.cells 0 Null)
first_from IntKey rowid id kept = refl
first_from TextKey rowid id kept = refl
first_from (Int8Vector width metric) rowid id kept = ap Int8 (first_vector kept.vectors)
first_from (BitVector width) rowid id kept = ap Bits (first_vector kept.vectors)
first_from IntPartition rowid id kept = first_value kept.partition
first_from TextPartition rowid id kept = first_value kept.partition
first_from IntMeta rowid id kept = first_value kept.cells
first_from TextMeta rowid id kept = first_value kept.cells
first_from BoolMeta rowid id kept = first_value kept.cells
first_from IntAux rowid id kept = first_value kept.cells
first_from TextAux rowid id kept = first_value kept.cells
first_from BlobAux rowid id kept = first_value kept.cells

pub woven-at : (columns : List Column) (rowid : ℤ) (id : Option (List ℕ)) (kept : KeptValues) (place : ℕ) (kind : Kind) → kind_in columns place ≡ Some kind →
    slice_index_or (woven columns rowid id kept) place Null ≡ value_from kind rowid id (slice_index_or kept.partition (before_in is_partition columns place) Null)
    (slice_index_or kept.vectors (before_in is_vector columns place) []) (slice_index_or kept.cells (before_in is_cell columns place) Null)
woven-at [] rowid id kept place kind is = absurd cc
woven-at (column ∷ columns) rowid id kept zero kind is =
    let same : column.kind ≡ kind = cc in
    subst (λ (k : Kind). woven_value column.kind rowid id kept ≡ value_from k rowid id (slice_index_or kept.partition 0 Null) (slice_index_or kept.vectors 0 []) (slice_index_or kept.cells 0 Null)) same
    (first_from column.kind rowid id kept)
woven-at (column ∷ columns) rowid id kept (suc place) kind is =
    woven-at columns rowid id (behind column.kind kept) place kind is
    ∙ ap (λ (v : Value). value_from kind rowid id v (slice_index_or (behind column.kind kept).vectors (before_in is_vector columns place) []) (slice_index_or (behind column.kind kept).cells (before_in is_cell columns place) Null))
    (later (is_partition column.kind) kept.partition (before_in is_partition columns place) Null)
    ∙ ap (λ (v : List ℕ). value_from kind rowid id (slice_index_or kept.partition (before_in is_partition (column ∷ columns) (suc place)) Null) v (slice_index_or (behind column.kind kept).cells (before_in is_cell columns place) Null))
    (later (is_vector column.kind) kept.vectors (before_in is_vector columns place) [])
    ∙ ap (λ (v : Value). value_from kind rowid id (slice_index_or kept.partition (before_in is_partition (column ∷ columns) (suc place)) Null) (slice_index_or kept.vectors (before_in is_vector (column ∷ columns) (suc place)) []) v)
    (later (is_cell column.kind) kept.cells (before_in is_cell columns place) Null)

-- where there is no column there is no value
pub woven-past : (columns : List Column) (rowid : ℤ) (id : Option (List ℕ)) (kept : KeptValues) (place : ℕ) → kind_in columns place ≡ None → slice_index_or (woven columns rowid id kept) place Null ≡ Null
woven-past [] rowid id kept place none = refl
woven-past (column ∷ columns) rowid id kept zero none = absurd cc
woven-past (column ∷ columns) rowid id kept (suc place) none = woven-past columns rowid id (behind column.kind kept) place none

-- ---- the vector in a column

step_before : (b : Bool) (n : ℕ) → cond b (suc n) n ≡ one_if b + n
step_before true n = omega arith
step_before false n = omega arith

some_width : (b : Bool) (n : ℕ) → b ≡ true → one_if b + n ≡ suc n
some_width true n is = omega arith
some_width false n is = absurd cc

-- there is one more
pub before_low : (columns : List Column) (place : ℕ) → is_kind_of is_vector (kind_in columns place) ≡ true → before_in is_vector columns place < length (widths_of columns)
before_low [] place is = absurd cc
before_low (column ∷ columns) zero is =
    let wide = one_width column.kind (widths_of columns) in
    let one = some_width (is_vector column.kind) (length (widths_of columns)) is in
    omega (arith, wide, one)
before_low (column ∷ columns) (suc place) is =
    let wide = one_width column.kind (widths_of columns) in
    let step = step_before (is_vector column.kind) (before_in is_vector columns place) in
    let rest = before_low columns place is in
    omega (arith, wide, step, rest)

vector_from : (kind : Kind) (rowid : ℤ) (id : Option (List ℕ)) (value : Value) (vector : List ℕ) (cell : Value) → is_vector kind ≡ true → vector_of (value_from kind rowid id value vector cell) ≡ Some vector
vector_from IntKey rowid id value vector cell is = absurd cc
vector_from TextKey rowid id value vector cell is = absurd cc
vector_from (Int8Vector width metric) rowid id value vector cell is = refl
vector_from (BitVector width) rowid id value vector cell is = refl
vector_from IntPartition rowid id value vector cell is = absurd cc
vector_from TextPartition rowid id value vector cell is = absurd cc
vector_from IntMeta rowid id value vector cell is = absurd cc
vector_from TextMeta rowid id value vector cell is = absurd cc
vector_from BoolMeta rowid id value vector cell is = absurd cc
vector_from IntAux rowid id value vector cell is = absurd cc
vector_from TextAux rowid id value vector cell is = absurd cc
vector_from BlobAux rowid id value vector cell is = absurd cc

pub vector_there : (columns : List Column) (rowid : ℤ) (id : Option (List ℕ)) (kept : KeptValues) (place : ℕ) → is_kind_of is_vector (kind_in columns place) ≡ true →
    vector_of (slice_index_or (woven columns rowid id kept) place Null) ≡ Some (slice_index_or kept.vectors (before_in is_vector columns place) [])
vector_there columns rowid id kept place is = by_kind (kind_in columns place) refl is where
  by_kind : (o : Option Kind) → kind_in columns place ≡ o → is_kind_of is_vector o ≡ true →
      vector_of (slice_index_or (woven columns rowid id kept) place Null) ≡ Some (slice_index_or kept.vectors (before_in is_vector columns place) [])
  by_kind None e h = absurd cc
  by_kind (Some kind) e h =
      ap vector_of (woven-at columns rowid id kept place kind e)
      ∙ vector_from kind rowid id (slice_index_or kept.partition (before_in is_partition columns place) Null) (slice_index_or kept.vectors (before_in is_vector columns place) [])
      (slice_index_or kept.cells (before_in is_cell columns place) Null) h

-- ---- values that are no vectors

value_at_kind : (columns : List Column) (s : StoredRow) (place : ℕ) (kind own : Kind) → kind_in columns place ≡ Some kind → kind ≡ own →
    value_in place (placed columns s) ≡ value_from own s.rowid s.id (slice_index_or s.partition (before_in is_partition columns place) Null)
    (slice_index_or s.vectors (before_in is_vector columns place) []) (slice_index_or s.cells (before_in is_cell columns place) Null)
value_at_kind columns s place kind own there is = woven-at columns s.rowid s.id (kept_in s) place own (there ∙ ap Some is)

pub int_key_there : (columns : List Column) (s : StoredRow) (place : ℕ) (kind : Kind) → kind_in columns place ≡ Some kind → kind ≡ IntKey → Int s.rowid ≡ value_in place (placed columns s)
int_key_there columns s place kind there is = sym (value_at_kind columns s place kind IntKey there is)

pub text_key_there : (columns : List Column) (s : StoredRow) (place : ℕ) (kind : Kind) → kind_in columns place ≡ Some kind → kind ≡ TextKey → Text (id_text s.id) ≡ value_in place (placed columns s)
text_key_there columns s place kind there is = sym (value_at_kind columns s place kind TextKey there is)

pub int_partition_there : (columns : List Column) (s : StoredRow) (place : ℕ) (kind : Kind) → kind_in columns place ≡ Some kind → kind ≡ IntPartition →
    slice_index_or s.partition (before_in is_partition columns place) Null ≡ value_in place (placed columns s)
int_partition_there columns s place kind there is = sym (value_at_kind columns s place kind IntPartition there is)

pub text_partition_there : (columns : List Column) (s : StoredRow) (place : ℕ) (kind : Kind) → kind_in columns place ≡ Some kind → kind ≡ TextPartition →
    slice_index_or s.partition (before_in is_partition columns place) Null ≡ value_in place (placed columns s)
text_partition_there columns s place kind there is = sym (value_at_kind columns s place kind TextPartition there is)

cell_from : (kind : Kind) (rowid : ℤ) (id : Option (List ℕ)) (value : Value) (vector : List ℕ) (cell : Value) → is_cell kind ≡ true → cell ≡ value_from kind rowid id value vector cell
cell_from IntKey rowid id value vector cell is = absurd cc
cell_from TextKey rowid id value vector cell is = absurd cc
cell_from (Int8Vector width metric) rowid id value vector cell is = absurd cc
cell_from (BitVector width) rowid id value vector cell is = absurd cc
cell_from IntPartition rowid id value vector cell is = absurd cc
cell_from TextPartition rowid id value vector cell is = absurd cc
cell_from IntMeta rowid id value vector cell is = refl
cell_from TextMeta rowid id value vector cell is = refl
cell_from BoolMeta rowid id value vector cell is = refl
cell_from IntAux rowid id value vector cell is = refl
cell_from TextAux rowid id value vector cell is = refl
cell_from BlobAux rowid id value vector cell is = refl

pub cell_there : (columns : List Column) (s : StoredRow) (place : ℕ) (kind : Kind) → kind_in columns place ≡ Some kind → is_cell kind ≡ true →
    slice_index_or s.cells (before_in is_cell columns place) Null ≡ value_in place (placed columns s)
cell_there columns s place kind there is =
    cell_from kind s.rowid s.id (slice_index_or s.partition (before_in is_partition columns place) Null) (slice_index_or s.vectors (before_in is_vector columns place) [])
    (slice_index_or s.cells (before_in is_cell columns place) Null) is
    ∙ sym (value_at_kind columns s place kind kind there refl)

-- a column that is none of keys, vectors and partition values has cells
pub other_cell : (kind : Kind) → is_vector kind ≡ false → (kind ≡ IntKey → ⊥) → (kind ≡ TextKey → ⊥) → (kind ≡ IntPartition → ⊥) → (kind ≡ TextPartition → ⊥) → is_cell kind ≡ true
other_cell IntKey other int text number part = absurd (int refl)
other_cell TextKey other int text number part = absurd (text refl)
other_cell (Int8Vector width metric) other int text number part = absurd cc
other_cell (BitVector width) other int text number part = absurd cc
other_cell IntPartition other int text number part = absurd (number refl)
other_cell TextPartition other int text number part = absurd (part refl)
other_cell IntMeta other int text number part = refl
other_cell TextMeta other int text number part = refl
other_cell BoolMeta other int text number part = refl
other_cell IntAux other int text number part = refl
other_cell TextAux other int text number part = refl
other_cell BlobAux other int text number part = refl

cell_step : (b : Bool) (kind : Kind) (kinds : List Kind) → length (cond b (kind ∷ kinds) kinds) ≡ one_if b + length kinds
cell_step true kind kinds = omega arith
cell_step false kind kinds = omega arith

pub cell_low : (columns : List Column) (place : ℕ) → is_kind_of is_cell (kind_in columns place) ≡ true → before_in is_cell columns place < length (kinds_of columns)
cell_low [] place is = absurd cc
cell_low (column ∷ columns) zero is =
    let wide = cell_step (is_cell column.kind) column.kind (kinds_of columns) in
    let one = some_width (is_cell column.kind) (length (kinds_of columns)) is in
    omega (arith, wide, one)
cell_low (column ∷ columns) (suc place) is =
    let wide = cell_step (is_cell column.kind) column.kind (kinds_of columns) in
    let step = step_before (is_cell column.kind) (before_in is_cell columns place) in
    let rest = cell_low columns place is in
    omega (arith, wide, step, rest)

-- ---- slots without their cells

pub plain-slot : (chunk : RowSlots) (slot : ℕ) → plain_at (plain_slots chunk) slot ≡ option_map vectors_alone (slot_at chunk slot)
plain-slot chunk slot = get_or-map (λ (o : Option UsedRow). option_map vectors_alone o) chunk.slots slot None

pub plain-used : (chunk : RowSlots) (slot : ℕ) → is_some (slot_at chunk slot) ≡ true → is_some (plain_at (plain_slots chunk) slot) ≡ true
plain-used chunk slot used = ap is_some (plain-slot chunk slot) ∙ same_some (slot_at chunk slot) used where
  same_some : (o : Option UsedRow) → is_some o ≡ true → is_some (option_map vectors_alone o) ≡ true
  same_some None h = h
  same_some (Some used) h = refl

pub plain-vector : (chunk : RowSlots) (slot column : ℕ) → vector_at (plain_slots chunk) slot column ≡ slice_index_or (vectors_in (slot_at chunk slot)) column []
plain-vector chunk slot column = ap (λ (o : Option UsedSlot). slice_index_or (Rattle.chunk_slots.specs.Slots.vectors_in o) column []) (plain-slot chunk slot) ∙ same_vectors (slot_at chunk slot) where
  same_vectors : (o : Option UsedRow) → slice_index_or (Rattle.chunk_slots.specs.Slots.vectors_in (option_map vectors_alone o)) column [] ≡ slice_index_or (vectors_in o) column []
  same_vectors None = refl
  same_vectors (Some used) = refl

-- ---- the row of a rowid

less_one : (n : ℕ) → suc n - 1 ≡ n
less_one n = omega arith

pub column_past : (columns : List Column) (rowid : ℤ) (row : RowRef) (column : ℕ) → (column ≡ 0 → ⊥) → kind_in columns (column - 1) ≡ None → column_value (viewed columns rowid row) column ≡ Null
column_past columns rowid row zero low none = absurd (low refl)
column_past columns rowid row (suc place) low none =
    let s = shown rowid row in
    woven-past columns rowid s.id (kept_in s) place (ap (kind_in columns) (sym (less_one place)) ∙ none)

pub row_there : (columns : List Column) (rows : List StoredRow) (i : ℤ) (row : RowRef) → stored_of i rows ≡ Some (shown i row) → row_of (placed_rows columns rows) i ≡ Some (viewed columns i row).placed
row_there columns rows i row is = placed-of columns rows i ∙ ap (λ o. option_map (placed columns) o) is

pub none_there : (columns : List Column) (rows : List StoredRow) (i : ℤ) → stored_of i rows ≡ None → row_of (placed_rows columns rows) i ≡ None
none_there columns rows i is = placed-of columns rows i ∙ ap (λ o. option_map (placed columns) o) is

-- the partition values of a stored row
record HasPartition (columns : List Column) (s : StoredRow) : Type 0 where
  values : list_all is_partition_value s.partition ≡ true

each_partition : (columns : List Column) (rows : List StoredRow) → list_all (is_valid_row columns) (plain_rows (placed_rows columns rows)) ≡ true → AllByRecursion (GivesAgain columns) rows →
    AllByRecursion (HasPartition columns) rows
each_partition columns [] valid again = tt
each_partition columns (s ∷ ss) valid again =
    let parts = and_parts (is_valid_row columns (placed columns s).row) (list_all (is_valid_row columns) (plain_rows (placed_rows columns ss))) valid in
    let values = partition-values columns s.rowid (placed columns s).row.values parts.0 in
    (record { values = subst (λ (r : StoredRow). list_all is_partition_value r.partition ≡ true) again.0 values }, each_partition columns ss parts.1 again.1)

pub partition_there : (columns : List Column) (rows : List StoredRow) (i : ℤ) (s : StoredRow) → list_all (is_valid_row columns) (plain_rows (placed_rows columns rows)) ≡ true → AllByRecursion (GivesAgain columns) rows →
    stored_of i rows ≡ Some s → list_all is_partition_value s.partition ≡ true
partition_there columns rows i s valid again found = (found-one (HasPartition columns) _ rows s (each_partition columns rows valid again) found).0.values

pub shown_at : (partition : List Value) (n : ℕ) (value : Value) → list_all is_partition_value partition ≡ true → slice_get partition n ≡ Some value → is_partition_value value ≡ true
shown_at [] n value all is = absurd cc
shown_at (x ∷ xs) zero value all is =
    let same : x ≡ value = cc in
    subst (λ (v : Value). is_partition_value v ≡ true) same (and_parts (is_partition_value x) (list_all is_partition_value xs) all).0
shown_at (x ∷ xs) (suc n) value all is = shown_at xs n value (and_parts (is_partition_value x) (list_all is_partition_value xs) all).1 is

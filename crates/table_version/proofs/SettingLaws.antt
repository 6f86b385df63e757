-- What is kept of a row's values where one of them is another.
use Rattle.std.proofs.Common.{◌≡◌, ℕ, zero, suc, ℤ, ◌+◌, ◌<◌, Bool, true, false, cond, List, [], ◌∷◌, ◌∙◌, refl, sym, ap, subst, arith, length, slice_set, Option, Some, None}
use Rattle.std.specs.Prelude.{◌&&◌, ◌||◌, slice_index_or, sum_by, if◌then◌else◌}
use Rattle.std.specs.List.{cons_option, AllByRecursion}
use Rattle.std.proofs.lemmas.Bool.{and_parts, and_from}
use Rattle.std.proofs.lemmas.List.Sums.{sum_by-cons}
use Rattle.vec_base.specs.declared.value.Value.{Value}
use Rattle.vec_base.specs.declared.value.Value.TheVariants.{Null}
use Rattle.chunk_slots.specs.Slots.{vector_of, vectors_of}
use Rattle.row_chunks.specs.Cells.{cells_of, is_cell, is_cell_value}
use Rattle.row_model.specs.Change.{is_same_text, same_id}
use Rattle.row_model.specs.ColumnNames.{is_text_key}
use Rattle.row_model.specs.Groups.{before_in, kind_in}
use Rattle.row_model.specs.Schemas.{is_partition, is_vector}
use Rattle.row_model.specs.Valid.{is_fitting, is_valid_value, are_valid_values}
use Rattle.row_model.specs.Values.{is_null, side_bytes}
use Rattle.row_model.specs.declared.schema.Column.{Column}
use Rattle.row_model.specs.declared.schema.Kind.{Kind}
use Rattle.row_model.specs.declared.schema.Kind.TheVariants.{IntKey, TextKey, Int8Vector, BitVector, IntPartition, TextPartition, IntMeta, TextMeta, BoolMeta, IntAux, TextAux, BlobAux}
use Rattle.row_model.proofs.ValidityRows.{is_int_key, valid_plainly}
use Rattle.shadow_records.specs.PlacedTables.{partition_of}
use Rattle.table_version.specs.Kept.{id_in, text_in}
use Rattle.table_version.proofs.WeavingLaws.{bits_shape, int8_shape, no_vector, not_null, number_shape, typed}

-- ---- valid values

pub valid-set : (columns : List Column) (rowid : ℤ) (values : List Value) (place : ℕ) (kind : Kind) (value : Value) → kind_in columns place ≡ Some kind → is_int_key kind ≡ false →
    is_cell_value kind value ≡ true → are_valid_values columns rowid values ≡ true → are_valid_values columns rowid (slice_set values place value) ≡ true
valid-set [] rowid values place kind value there key fits valid = absurd cc
valid-set (column ∷ columns) rowid [] place kind value there key fits valid = absurd cc
valid-set (column ∷ columns) rowid (v ∷ vs) zero kind value there key fits valid =
    let same : column.kind ≡ kind = cc in
    and_from _ _ (subst (λ (k : Kind). is_valid_value k rowid value ≡ true) (sym same) (valid_plainly kind rowid value key fits)) (and_parts (is_valid_value column.kind rowid v) (are_valid_values columns rowid vs) valid).1
valid-set (column ∷ columns) rowid (v ∷ vs) (suc place) kind value there key fits valid =
    let parts = and_parts (is_valid_value column.kind rowid v) (are_valid_values columns rowid vs) valid in
    and_from _ _ parts.0 (valid-set columns rowid vs place kind value there key fits parts.1)

pub place-low : (columns : List Column) (rowid : ℤ) (values : List Value) (place : ℕ) (kind : Kind) → kind_in columns place ≡ Some kind → are_valid_values columns rowid values ≡ true → place < length values
place-low [] rowid values place kind there valid = absurd cc
place-low (column ∷ columns) rowid [] place kind there valid = absurd cc
place-low (column ∷ columns) rowid (v ∷ vs) zero kind there valid = omega arith
place-low (column ∷ columns) rowid (v ∷ vs) (suc place) kind there valid =
    let rest = place-low columns rowid vs place kind there (and_parts (is_valid_value column.kind rowid v) (are_valid_values columns rowid vs) valid).1 in
    omega (arith, rest)

-- ---- values in the columns of a sort

abbrev pub picked : (Kind → Bool) → List Column → List Value → List Value
picked sort (column ∷ columns) (value ∷ values) = cond (sort column.kind) (value ∷ picked sort columns values) (picked sort columns values)
picked sort [] values = []
picked sort (column ∷ columns) [] = []

partition_picked : (columns : List Column) (values : List Value) → partition_of columns values ≡ picked is_partition columns values
partition_picked [] values = refl
partition_picked (column ∷ columns) [] = refl
partition_picked (column ∷ columns) (value ∷ values) = ap (λ xs. cond (is_partition column.kind) (value ∷ xs) xs) (partition_picked columns values)

cells_picked : (columns : List Column) (values : List Value) → cells_of columns values ≡ picked is_cell columns values
cells_picked [] values = refl
cells_picked (column ∷ columns) [] = refl
cells_picked (column ∷ columns) (value ∷ values) = ap (λ xs. cond (is_cell column.kind) (value ∷ xs) xs) (cells_picked columns values)

picked_set : (sort : Kind → Bool) (columns : List Column) (values : List Value) (place : ℕ) (kind : Kind) (value : Value) → kind_in columns place ≡ Some kind → sort kind ≡ true →
    picked sort columns (slice_set values place value) ≡ slice_set (picked sort columns values) (before_in sort columns place) value
picked_set sort [] values place kind value there is = absurd cc
picked_set sort (column ∷ columns) [] place kind value there is = refl
picked_set sort (column ∷ columns) (v ∷ vs) zero kind value there is =
    let same : column.kind ≡ kind = cc in
    by_sort (sort column.kind) (ap sort same ∙ is)
  where
    by_sort : (b : Bool) → b ≡ true → cond b (value ∷ picked sort columns vs) (picked sort columns vs) ≡ slice_set (cond b (v ∷ picked sort columns vs) (picked sort columns vs)) 0 value
    by_sort true e = refl
    by_sort false e = absurd cc
picked_set sort (column ∷ columns) (v ∷ vs) (suc place) kind value there is = by_sort (sort column.kind) (picked_set sort columns vs place kind value there is) where
  by_sort : (b : Bool) → picked sort columns (slice_set vs place value) ≡ slice_set (picked sort columns vs) (before_in sort columns place) value →
      cond b (v ∷ picked sort columns (slice_set vs place value)) (picked sort columns (slice_set vs place value))
      ≡ slice_set (cond b (v ∷ picked sort columns vs) (picked sort columns vs)) (cond b (suc (before_in sort columns place)) (before_in sort columns place)) value
  by_sort true rest = ap (λ (xs : List Value). v ∷ xs) rest
  by_sort false rest = rest

picked_other : (sort : Kind → Bool) (columns : List Column) (values : List Value) (place : ℕ) (kind : Kind) (value : Value) → kind_in columns place ≡ Some kind → sort kind ≡ false →
    picked sort columns (slice_set values place value) ≡ picked sort columns values
picked_other sort [] values place kind value there is = absurd cc
picked_other sort (column ∷ columns) [] place kind value there is = refl
picked_other sort (column ∷ columns) (v ∷ vs) zero kind value there is =
    let same : column.kind ≡ kind = cc in
    by_sort (sort column.kind) (ap sort same ∙ is)
  where
    by_sort : (b : Bool) → b ≡ false → cond b (value ∷ picked sort columns vs) (picked sort columns vs) ≡ cond b (v ∷ picked sort columns vs) (picked sort columns vs)
    by_sort true e = absurd cc
    by_sort false e = refl
picked_other sort (column ∷ columns) (v ∷ vs) (suc place) kind value there is =
    ap (λ (xs : List Value). cond (sort column.kind) (v ∷ xs) xs) (picked_other sort columns vs place kind value there is)

pub cells-set : (columns : List Column) (values : List Value) (place : ℕ) (kind : Kind) (value : Value) → kind_in columns place ≡ Some kind → is_cell kind ≡ true →
    cells_of columns (slice_set values place value) ≡ slice_set (cells_of columns values) (before_in is_cell columns place) value
cells-set columns values place kind value there is =
    cells_picked columns (slice_set values place value) ∙ picked_set is_cell columns values place kind value there is
    ∙ ap (λ (xs : List Value). slice_set xs (before_in is_cell columns place) value) (sym (cells_picked columns values))

pub cells-other : (columns : List Column) (values : List Value) (place : ℕ) (kind : Kind) (value : Value) → kind_in columns place ≡ Some kind → is_cell kind ≡ false →
    cells_of columns (slice_set values place value) ≡ cells_of columns values
cells-other columns values place kind value there is =
    cells_picked columns (slice_set values place value) ∙ picked_other is_cell columns values place kind value there is ∙ sym (cells_picked columns values)

pub partition-other : (columns : List Column) (values : List Value) (place : ℕ) (kind : Kind) (value : Value) → kind_in columns place ≡ Some kind → is_partition kind ≡ false →
    partition_of columns (slice_set values place value) ≡ partition_of columns values
partition-other columns values place kind value there is =
    partition_picked columns (slice_set values place value) ∙ picked_other is_partition columns values place kind value there is ∙ sym (partition_picked columns values)

-- ---- text ids

pub id-other : (columns : List Column) (values : List Value) (place : ℕ) (kind : Kind) (value : Value) → kind_in columns place ≡ Some kind → is_text_key kind ≡ false →
    id_in columns (slice_set values place value) ≡ id_in columns values
id-other [] values place kind value there is = absurd cc
id-other (column ∷ columns) [] place kind value there is = refl
id-other (column ∷ columns) (v ∷ vs) zero kind value there is =
    let same : column.kind ≡ kind = cc in
    by_key (is_text_key column.kind) (ap is_text_key same ∙ is)
  where
    by_key : (b : Bool) → b ≡ false → (if b then text_in value else id_in columns vs) ≡ (if b then text_in v else id_in columns vs)
    by_key true e = absurd cc
    by_key false e = refl
id-other (column ∷ columns) (v ∷ vs) (suc place) kind value there is =
    ap (λ (o : Option (List ℕ)). if is_text_key column.kind then text_in v else o) (id-other columns vs place kind value there is)

pub same_id-other : (columns : List Column) (us vs : List Value) (place : ℕ) (kind : Kind) (value : Value) → kind_in columns place ≡ Some kind → is_text_key kind ≡ false →
    same_id columns (slice_set us place value) vs ≡ same_id columns us vs
same_id-other [] us vs place kind value there is = absurd cc
same_id-other (column ∷ columns) [] vs place kind value there is = refl
same_id-other (column ∷ columns) (u ∷ us) [] zero kind value there is = refl
same_id-other (column ∷ columns) (u ∷ us) [] (suc place) kind value there is = refl
same_id-other (column ∷ columns) (u ∷ us) (v ∷ vs) zero kind value there is =
    let same : column.kind ≡ kind = cc in
    by_key (is_text_key column.kind) (ap is_text_key same ∙ is)
  where
    by_key : (b : Bool) → b ≡ false → ((b && is_same_text value v) || same_id columns us vs) ≡ ((b && is_same_text u v) || same_id columns us vs)
    by_key true e = absurd cc
    by_key false e = refl
same_id-other (column ∷ columns) (u ∷ us) (v ∷ vs) (suc place) kind value there is =
    ap (λ (b : Bool). (is_text_key column.kind && is_same_text u v) || b) (same_id-other columns us vs place kind value there is)

-- ---- vectors

-- a valid value of a vector column is a vector, and no other is one
pub vector_in : (kind : Kind) (rowid : ℤ) (value : Value) → is_vector kind ≡ true → is_valid_value kind rowid value ≡ true → (vector : List ℕ) × (vector_of value ≡ Some vector)
vector_in (Int8Vector width metric) rowid value is valid =
    let shape = int8_shape value (typed (Int8Vector width metric) value (not_null (is_null value) (is_fitting (Int8Vector width metric) value) valid)) in
    (shape.0, ap vector_of shape.1)
vector_in (BitVector width) rowid value is valid =
    let shape = bits_shape value (typed (BitVector width) value (not_null (is_null value) (is_fitting (BitVector width) value) valid)) in
    (shape.0, ap vector_of shape.1)
vector_in IntKey rowid value is valid = absurd cc
vector_in TextKey rowid value is valid = absurd cc
vector_in IntPartition rowid value is valid = absurd cc
vector_in TextPartition rowid value is valid = absurd cc
vector_in IntMeta rowid value is valid = absurd cc
vector_in TextMeta rowid value is valid = absurd cc
vector_in BoolMeta rowid value is valid = absurd cc
vector_in IntAux rowid value is valid = absurd cc
vector_in TextAux rowid value is valid = absurd cc
vector_in BlobAux rowid value is valid = absurd cc

other_in : (kind : Kind) (rowid : ℤ) (value : Value) → is_vector kind ≡ false → is_valid_value kind rowid value ≡ true → vector_of value ≡ None
other_in IntKey rowid value is valid = ap vector_of (number_shape rowid value valid)
other_in TextKey rowid value is valid = no_vector TextKey value refl valid
other_in (Int8Vector width metric) rowid value is valid = absurd cc
other_in (BitVector width) rowid value is valid = absurd cc
other_in IntPartition rowid value is valid = no_vector IntPartition value refl valid
other_in TextPartition rowid value is valid = no_vector TextPartition value refl valid
other_in IntMeta rowid value is valid = no_vector IntMeta value refl valid
other_in TextMeta rowid value is valid = no_vector TextMeta value refl valid
other_in BoolMeta rowid value is valid = no_vector BoolMeta value refl valid
other_in IntAux rowid value is valid = no_vector IntAux value refl valid
other_in TextAux rowid value is valid = no_vector TextAux value refl valid
other_in BlobAux rowid value is valid = no_vector BlobAux value refl valid

set_behind : (o : Option (List ℕ)) (b : Bool) (xs : List (List ℕ)) (n : ℕ) (vector : List ℕ) → (b ≡ true → (w : List ℕ) × (o ≡ Some w)) → (b ≡ false → o ≡ None) →
    cons_option o (slice_set xs n vector) ≡ slice_set (cons_option o xs) (cond b (suc n) n) vector
set_behind o true xs n vector some none =
    let w = some refl in
    ap (λ (p : Option (List ℕ)). cons_option p (slice_set xs n vector)) w.1 ∙ sym (ap (λ (p : Option (List ℕ)). slice_set (cons_option p xs) (suc n) vector) w.1)
set_behind o false xs n vector some none =
    let e = none refl in
    ap (λ (p : Option (List ℕ)). cons_option p (slice_set xs n vector)) e ∙ sym (ap (λ (p : Option (List ℕ)). slice_set (cons_option p xs) n vector) e)

pub vectors-set : (columns : List Column) (rowid : ℤ) (values : List Value) (place : ℕ) (kind : Kind) (value : Value) (vector : List ℕ) → kind_in columns place ≡ Some kind → is_vector kind ≡ true →
    vector_of value ≡ Some vector → are_valid_values columns rowid values ≡ true →
    vectors_of (slice_set values place value) ≡ slice_set (vectors_of values) (before_in is_vector columns place) vector
vectors-set [] rowid values place kind value vector there is own valid = absurd cc
vectors-set (column ∷ columns) rowid [] place kind value vector there is own valid = absurd cc
vectors-set (column ∷ columns) rowid (v ∷ vs) zero kind value vector there is own valid =
    let same : column.kind ≡ kind = cc in
    let old = vector_in column.kind rowid v (ap is_vector same ∙ is) (and_parts (is_valid_value column.kind rowid v) (are_valid_values columns rowid vs) valid).0 in
    ap (λ (o : Option (List ℕ)). cons_option o (vectors_of vs)) own ∙ sym (ap (λ (o : Option (List ℕ)). slice_set (cons_option o (vectors_of vs)) 0 vector) old.1)
vectors-set (column ∷ columns) rowid (v ∷ vs) (suc place) kind value vector there is own valid =
    let parts = and_parts (is_valid_value column.kind rowid v) (are_valid_values columns rowid vs) valid in
    ap (λ (xs : List (List ℕ)). cons_option (vector_of v) xs) (vectors-set columns rowid vs place kind value vector there is own parts.1)
    ∙ set_behind (vector_of v) (is_vector column.kind) (vectors_of vs) (before_in is_vector columns place) vector (λ e. vector_in column.kind rowid v e parts.0) (λ e. other_in column.kind rowid v e parts.0)

pub vectors-other : (columns : List Column) (rowid : ℤ) (values : List Value) (place : ℕ) (kind : Kind) (value : Value) → kind_in columns place ≡ Some kind → is_vector kind ≡ false →
    vector_of value ≡ None → are_valid_values columns rowid values ≡ true → vectors_of (slice_set values place value) ≡ vectors_of values
vectors-other [] rowid values place kind value there is own valid = absurd cc
vectors-other (column ∷ columns) rowid [] place kind value there is own valid = refl
vectors-other (column ∷ columns) rowid (v ∷ vs) zero kind value there is own valid =
    let same : column.kind ≡ kind = cc in
    let old = other_in column.kind rowid v (ap is_vector same ∙ is) (and_parts (is_valid_value column.kind rowid v) (are_valid_values columns rowid vs) valid).0 in
    ap (λ (o : Option (List ℕ)). cons_option o (vectors_of vs)) (own ∙ sym old)
vectors-other (column ∷ columns) rowid (v ∷ vs) (suc place) kind value there is own valid =
    ap (λ (xs : List (List ℕ)). cons_option (vector_of v) xs)
    (vectors-other columns rowid vs place kind value there is own (and_parts (is_valid_value column.kind rowid v) (are_valid_values columns rowid vs) valid).1)

-- ---- bytes, and what holds of each

pub sum-set : (values : List Value) (place : ℕ) (value : Value) → place < length values →
    sum_by side_bytes (slice_set values place value) + side_bytes (slice_index_or values place Null) ≡ sum_by side_bytes values + side_bytes value
sum-set [] place value low = absurd (omega (arith, low))
sum-set (v ∷ vs) zero value low =
    let old = sum_by-cons side_bytes v vs in
    let new = sum_by-cons side_bytes value vs in
    omega (arith, old, new)
sum-set (v ∷ vs) (suc place) value low =
    let old = sum_by-cons side_bytes v vs in
    let new = sum_by-cons side_bytes v (slice_set vs place value) in
    let rest = sum-set vs place value (omega (arith, low)) in
    omega (arith, old, new, rest)

pub all-set : {A : Type 0} (P : A → Type 0) (xs : List A) (place : ℕ) (x : A) → P x → AllByRecursion P xs → AllByRecursion P (slice_set xs place x)
all-set P [] place x own all = tt
all-set P (y ∷ ys) zero x own all = (own, all.1)
all-set P (y ∷ ys) (suc place) x own all = (all.0, all-set P ys place x own all.1)

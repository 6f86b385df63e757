-- The values of a row come back from what is kept of it, and what its vectors and text ids are like.
use Rattle.std.proofs.Common.{◌≡◌, ℕ, zero, suc, ℤ, ◌+◌, ◌≤◌, Bool, true, false, cond, List, [], ◌∷◌, ◌∙◌, refl, sym, ap, ap₂, subst, arith, map, length, Option, Some, None}
use Rattle.std.specs.Prelude.{◌==◌, ◌*◌, ◌/◌, ◌%◌, ◌&&◌, ◌||◌, not, nat_lt, nat_le, bytes_eq, is_some, if◌then◌else◌}
use Rattle.std.specs.List.{list_all, cons_option, All, AllByRecursion}
use Rattle.std.specs.Ordering.{int_eq}
use Rattle.std.proofs.lemmas.Bool.{and_parts, and_from, eqb-true, leb-true, ltb-false}
use Rattle.std.proofs.lemmas.Int.{ints}
use Rattle.std.proofs.lemmas.List.Sums.{sum_by-cons}
use Rattle.std.proofs.lemmas.Slice.Eq.{bytes_eq-Decides}
use Rattle.vec_base.specs.declared.value.Value.{Value}
use Rattle.vec_base.specs.declared.value.Value.TheVariants.{Null, Int, Text, Blob, Int8, Bits}
use Rattle.row_model.specs.Change.{is_same_text, same_id}
use Rattle.row_model.specs.ColumnNames.{is_text_key, has_text_key}
use Rattle.row_model.specs.Schemas.{is_key, is_vector, is_partition, count_of, has_some, is_misfit_int8, is_misfit_bits, IsValidSchema}
use Rattle.row_model.specs.Valid.{is_number, is_fitting, is_valid_value, are_valid_values}
use Rattle.row_model.specs.Values.{is_null, is_int, is_text, is_int8, is_bits, is_of_kind, is_shaped, dimensions, width_of, side_bytes}
use Rattle.row_model.specs.declared.schema.Column.{Column}
use Rattle.row_model.specs.declared.schema.Kind.{Kind}
use Rattle.row_model.specs.declared.schema.Kind.TheVariants.{IntKey, TextKey, Int8Vector, BitVector, IntPartition, TextPartition, IntMeta, TextMeta, BoolMeta, IntAux, TextAux, BlobAux}
use Rattle.row_model.proofs.BoolLaws.{not_false, or_first, or_none, or_second}
use Rattle.row_model.specs.declared.schema.Schema.{Schema}
use Rattle.row_model.proofs.SchemaLaws.{faultless}
use Rattle.shadow_records.specs.PlacedTables.{partition_of}
use Rattle.chunk_slots.specs.Slots.{vector_of, vectors_of}
use Rattle.vec_base.specs.declared.limits.TheConstants.{MOST_DIMENSIONS, MOST_VALUE_BYTES, MOST_VECTOR_COLUMNS}
use Rattle.row_chunks.specs.Cells.{are_cell_values, cells_of, is_cell, is_cell_value, kinds_of}
use Rattle.table_version.specs.inner.StoredTables.{kept_of}
use Rattle.table_version.specs.inner.Weaving.{KeptValues, behind, id_text, past, woven_value, woven}
use Rattle.table_version.specs.Kept.{text_in, id_in, is_one_id, is_partition_value, vector_width, widths_of}

-- ---- what a value of a type is

int_shape : (value : Value) → is_int value ≡ true → (n : ℤ) × (value ≡ Int n)
int_shape (Int n) h = (n, refl)
int_shape Null h = absurd cc
int_shape (Text text) h = absurd cc
int_shape (Blob bytes) h = absurd cc
int_shape (Int8 vector) h = absurd cc
int_shape (Bits vector) h = absurd cc

text_shape : (value : Value) → is_text value ≡ true → (text : List ℕ) × (value ≡ Text text)
text_shape (Text text) h = (text, refl)
text_shape Null h = absurd cc
text_shape (Int n) h = absurd cc
text_shape (Blob bytes) h = absurd cc
text_shape (Int8 vector) h = absurd cc
text_shape (Bits vector) h = absurd cc

pub int8_shape : (value : Value) → is_int8 value ≡ true → (vector : List ℕ) × (value ≡ Int8 vector)
int8_shape (Int8 vector) h = (vector, refl)
int8_shape Null h = absurd cc
int8_shape (Int n) h = absurd cc
int8_shape (Text text) h = absurd cc
int8_shape (Blob bytes) h = absurd cc
int8_shape (Bits vector) h = absurd cc

pub bits_shape : (value : Value) → is_bits value ≡ true → (vector : List ℕ) × (value ≡ Bits vector)
bits_shape (Bits vector) h = (vector, refl)
bits_shape Null h = absurd cc
bits_shape (Int n) h = absurd cc
bits_shape (Text text) h = absurd cc
bits_shape (Blob bytes) h = absurd cc
bits_shape (Int8 vector) h = absurd cc

same_number : (n rowid : ℤ) → int_eq n rowid ≡ true → n ≡ rowid
same_number n rowid h = grind (arith, ints)

pub number_shape : (rowid : ℤ) (value : Value) → is_number rowid value ≡ true → value ≡ Int rowid
number_shape rowid (Int n) h = ap Int (same_number n rowid h)
number_shape rowid Null h = absurd cc
number_shape rowid (Text text) h = absurd cc
number_shape rowid (Blob bytes) h = absurd cc
number_shape rowid (Int8 vector) h = absurd cc
number_shape rowid (Bits vector) h = absurd cc

-- where no NULL is taken, the value fits
pub not_null : (none fits : Bool) → (if none then false else fits) ≡ true → fits ≡ true
not_null true fits h = absurd cc
not_null false fits h = h

pub typed : (kind : Kind) (value : Value) → is_fitting kind value ≡ true → is_of_kind kind value ≡ true
typed kind value h = (and_parts (is_of_kind kind value) _ h).0

shaped : (kind : Kind) (value : Value) → is_fitting kind value ≡ true → width_of kind ≡ dimensions value
shaped kind value h =
    let parts = and_parts (is_of_kind kind value) (is_shaped kind value && nat_le (side_bytes value) MOST_VALUE_BYTES) h in
    let fits : is_shaped kind value ≡ true = (and_parts (is_shaped kind value) (nat_le (side_bytes value) MOST_VALUE_BYTES) parts.1).0 in
    eqb-true (width_of kind) (dimensions value) (by_type (is_of_kind kind value) (width_of kind == dimensions value) parts.0 fits)
  where
    by_type : (a b : Bool) → a ≡ true → (not a || b) ≡ true → b ≡ true
    by_type true b e g = g
    by_type false b e g = absurd cc

-- ---- values that are no vectors

int8_kind : (kind : Kind) (vector : List ℕ) → is_of_kind kind (Int8 vector) ≡ true → is_vector kind ≡ true
int8_kind IntKey vector h = absurd cc
int8_kind TextKey vector h = absurd cc
int8_kind (Int8Vector width metric) vector h = refl
int8_kind (BitVector width) vector h = absurd cc
int8_kind IntPartition vector h = absurd cc
int8_kind TextPartition vector h = absurd cc
int8_kind IntMeta vector h = absurd cc
int8_kind TextMeta vector h = absurd cc
int8_kind BoolMeta vector h = absurd cc
int8_kind IntAux vector h = absurd cc
int8_kind TextAux vector h = absurd cc
int8_kind BlobAux vector h = absurd cc

bits_kind : (kind : Kind) (vector : List ℕ) → is_of_kind kind (Bits vector) ≡ true → is_vector kind ≡ true
bits_kind IntKey vector h = absurd cc
bits_kind TextKey vector h = absurd cc
bits_kind (Int8Vector width metric) vector h = absurd cc
bits_kind (BitVector width) vector h = refl
bits_kind IntPartition vector h = absurd cc
bits_kind TextPartition vector h = absurd cc
bits_kind IntMeta vector h = absurd cc
bits_kind TextMeta vector h = absurd cc
bits_kind BoolMeta vector h = absurd cc
bits_kind IntAux vector h = absurd cc
bits_kind TextAux vector h = absurd cc
bits_kind BlobAux vector h = absurd cc

-- a value of a column that is none of vectors
pub no_vector : (kind : Kind) (value : Value) → is_vector kind ≡ false → is_cell_value kind value ≡ true → vector_of value ≡ None
no_vector kind Null other fits = refl
no_vector kind (Int n) other fits = refl
no_vector kind (Text text) other fits = refl
no_vector kind (Blob bytes) other fits = refl
no_vector kind (Int8 vector) other fits = let there = int8_kind kind vector (typed kind (Int8 vector) fits) in absurd cc
no_vector kind (Bits vector) other fits = let there = bits_kind kind vector (typed kind (Bits vector) fits) in absurd cc

-- ---- one column

abbrev pub with_kept : Kind → Value → KeptValues → KeptValues
with_kept kind value kept = record {
  partition = cond (is_partition kind) (value ∷ kept.partition) kept.partition;
  vectors = cons_option (vector_of value) kept.vectors;
  cells = cond (is_cell kind) (value ∷ kept.cells) kept.cells;
}

-- what is kept of a value in a column of the kind gives it back, and is like the column
record IsKept (kind : Kind) (rowid : ℤ) (value : Value) : Type 0 where
  back : (id : Option (List ℕ)) (kept : KeptValues) → (is_text_key kind ≡ true → id ≡ text_in value) → woven_value kind rowid id (with_kept kind value kept) ≡ value
  rest : (vectors : List (List ℕ)) → past (is_vector kind) (cons_option (vector_of value) vectors) ≡ vectors
  wide : (vectors : List (List ℕ)) → map length (cons_option (vector_of value) vectors) ≡ cons_option (vector_width kind) (map length vectors)
  fine : (partition : List Value) → list_all is_partition_value partition ≡ true → list_all is_partition_value (cond (is_partition kind) (value ∷ partition) partition) ≡ true
  cell : (kinds : List Kind) (cells : List Value) → are_cell_values kinds cells ≡ true →
      are_cell_values (cond (is_cell kind) (kind ∷ kinds) kinds) (cond (is_cell kind) (value ∷ cells) cells) ≡ true

kept : (kind : Kind) (rowid : ℤ) (value : Value) → is_valid_value kind rowid value ≡ true → IsKept kind rowid value
kept IntKey rowid value valid =
    let P : Value → Type 0 = λ v. IsKept IntKey rowid v in
    subst P (sym (number_shape rowid value valid))
    (record { back = λ id kept own. refl; rest = λ vectors. refl; wide = λ vectors. refl; fine = λ partition all. all; cell = λ kinds cells all. all })
kept TextKey rowid value valid =
    let shape = text_shape value (typed TextKey value (not_null (is_null value) (is_fitting TextKey value) valid)) in
    let P : Value → Type 0 = λ v. IsKept TextKey rowid v in
    subst P (sym shape.1)
    (record { back = λ id kept own. ap (λ i. Text (id_text i)) (own refl); rest = λ vectors. refl; wide = λ vectors. refl; fine = λ partition all. all; cell = λ kinds cells all. all })
kept (Int8Vector width metric) rowid value valid =
    let fits = not_null (is_null value) (is_fitting (Int8Vector width metric) value) valid in
    let shape = int8_shape value (typed (Int8Vector width metric) value fits) in
    let same : width ≡ length shape.0 = shaped (Int8Vector width metric) value fits ∙ ap dimensions shape.1 in
    let P : Value → Type 0 = λ v. IsKept (Int8Vector width metric) rowid v in
    subst P (sym shape.1) (record {
      back = λ id kept own. refl;
      rest = λ vectors. refl;
      wide = λ vectors. ap (λ n. n ∷ map length vectors) (sym same);
      fine = λ partition all. all;
      cell = λ kinds cells all. all;
    })
kept (BitVector width) rowid value valid =
    let fits = not_null (is_null value) (is_fitting (BitVector width) value) valid in
    let shape = bits_shape value (typed (BitVector width) value fits) in
    let same : width ≡ 8 * length shape.0 = shaped (BitVector width) value fits ∙ ap dimensions shape.1 in
    let P : Value → Type 0 = λ v. IsKept (BitVector width) rowid v in
    subst P (sym shape.1) (record {
      back = λ id kept own. refl;
      rest = λ vectors. refl;
      wide = λ vectors. ap (λ n. n ∷ map length vectors) (eighth width (length shape.0) same);
      fine = λ partition all. all;
      cell = λ kinds cells all. all;
    })
  where
    eighth : (bits bytes : ℕ) → bits ≡ 8 * bytes → bytes ≡ bits / 8
    eighth bits bytes e = omega (arith, e)
kept IntPartition rowid value valid =
    let shape = int_shape value (typed IntPartition value (not_null (is_null value) (is_fitting IntPartition value) valid)) in
    let P : Value → Type 0 = λ v. IsKept IntPartition rowid v in
    subst P (sym shape.1)
    (record { back = λ id kept own. refl; rest = λ vectors. refl; wide = λ vectors. refl; fine = λ partition all. and_from _ _ refl all; cell = λ kinds cells all. all })
kept TextPartition rowid value valid =
    let shape = text_shape value (typed TextPartition value (not_null (is_null value) (is_fitting TextPartition value) valid)) in
    let P : Value → Type 0 = λ v. IsKept TextPartition rowid v in
    subst P (sym shape.1)
    (record { back = λ id kept own. refl; rest = λ vectors. refl; wide = λ vectors. refl; fine = λ partition all. and_from _ _ refl all; cell = λ kinds cells all. all })
kept IntMeta rowid value valid =
    let none = no_vector IntMeta value refl valid in
    record {
      back = λ id kept own. refl;
      rest = λ vectors. ap (λ (o : Option (List ℕ)). cons_option o vectors) none;
      wide = λ vectors. ap (λ (o : Option (List ℕ)). map length (cons_option o vectors)) none;
      fine = λ partition all. all;
      cell = λ kinds cells all. and_from _ _ valid all;
    }
kept TextMeta rowid value valid =
    let none = no_vector TextMeta value refl valid in
    record {
      back = λ id kept own. refl;
      rest = λ vectors. ap (λ (o : Option (List ℕ)). cons_option o vectors) none;
      wide = λ vectors. ap (λ (o : Option (List ℕ)). map length (cons_option o vectors)) none;
      fine = λ partition all. all;
      cell = λ kinds cells all. and_from _ _ valid all;
    }
kept BoolMeta rowid value valid =
    let none = no_vector BoolMeta value refl valid in
    record {
      back = λ id kept own. refl;
      rest = λ vectors. ap (λ (o : Option (List ℕ)). cons_option o vectors) none;
      wide = λ vectors. ap (λ (o : Option (List ℕ)). map length (cons_option o vectors)) none;
      fine = λ partition all. all;
      cell = λ kinds cells all. and_from _ _ valid all;
    }
kept IntAux rowid value valid =
    let none = no_vector IntAux value refl valid in
    record {
      back = λ id kept own. refl;
      rest = λ vectors. ap (λ (o : Option (List ℕ)). cons_option o vectors) none;
      wide = λ vectors. ap (λ (o : Option (List ℕ)). map length (cons_option o vectors)) none;
      fine = λ partition all. all;
      cell = λ kinds cells all. and_from _ _ valid all;
    }
kept TextAux rowid value valid =
    let none = no_vector TextAux value refl valid in
    record {
      back = λ id kept own. refl;
      rest = λ vectors. ap (λ (o : Option (List ℕ)). cons_option o vectors) none;
      wide = λ vectors. ap (λ (o : Option (List ℕ)). map length (cons_option o vectors)) none;
      fine = λ partition all. all;
      cell = λ kinds cells all. and_from _ _ valid all;
    }
kept BlobAux rowid value valid =
    let none = no_vector BlobAux value refl valid in
    record {
      back = λ id kept own. refl;
      rest = λ vectors. ap (λ (o : Option (List ℕ)). cons_option o vectors) none;
      wide = λ vectors. ap (λ (o : Option (List ℕ)). map length (cons_option o vectors)) none;
      fine = λ partition all. all;
      cell = λ kinds cells all. and_from _ _ valid all;
    }

-- a vector that a column can hold is as wide as the column
pub value-width : (kind : Kind) (rowid : ℤ) (value : Value) (vector : List ℕ) → is_valid_value kind rowid value ≡ true → vector_of value ≡ Some vector → vector_width kind ≡ Some (length vector)
value-width kind rowid value vector valid own =
    by_width (vector_width kind) (ap (λ (o : Option (List ℕ)). map length (cons_option o [])) (sym own) ∙ (kept kind rowid value valid).wide [])
  where
    by_width : (o : Option ℕ) → length vector ∷ [] ≡ cons_option o [] → o ≡ Some (length vector)
    by_width None e = absurd cc
    by_width (Some w) e = let same : w ≡ length vector = cc in ap Some same

-- ---- one key at most

text_is_key : (kind : Kind) → is_text_key kind ≡ true → is_key kind ≡ true
text_is_key TextKey h = refl
text_is_key IntKey h = absurd cc
text_is_key (Int8Vector width metric) h = absurd cc
text_is_key (BitVector width) h = absurd cc
text_is_key IntPartition h = absurd cc
text_is_key TextPartition h = absurd cc
text_is_key IntMeta h = absurd cc
text_is_key TextMeta h = absurd cc
text_is_key BoolMeta h = absurd cc
text_is_key IntAux h = absurd cc
text_is_key TextAux h = absurd cc
text_is_key BlobAux h = absurd cc

abbrev pub one_if : Bool → ℕ
one_if b = cond b 1 0

keys_step : (column : Column) (columns : List Column) → count_of is_key (column ∷ columns) ≡ one_if (is_key column.kind) + count_of is_key columns
keys_step column columns = sum_by-cons (λ (c : Column). one_if (is_key c.kind)) column columns

pub fewer_keys : (column : Column) (columns : List Column) → count_of is_key (column ∷ columns) ≤ 1 → count_of is_key columns ≤ 1
fewer_keys column columns few = let step = keys_step column columns in omega (arith, few, step)

-- behind a key there is none
keys_behind : (column : Column) (columns : List Column) (most : ℕ) → count_of is_key (column ∷ columns) ≤ suc most → is_text_key column.kind ≡ true → count_of is_key columns ≤ most
keys_behind column columns most few text =
    let key : one_if (is_key column.kind) ≡ 1 = ap one_if (text_is_key column.kind text) in
    let step = keys_step column columns in
    omega (arith, few, step, key)

no_text_key : (columns : List Column) → count_of is_key columns ≤ 0 → has_text_key columns ≡ false
no_text_key [] few = refl
no_text_key (column ∷ columns) few =
    let step = keys_step column columns in
    or_none (is_text_key column.kind) (has_text_key columns) (no_first (is_text_key column.kind) refl) (no_text_key columns (omega (arith, few, step)))
  where
    no_first : (b : Bool) → is_text_key column.kind ≡ b → b ≡ false
    no_first false e = refl
    no_first true e =
        let key : one_if (is_key column.kind) ≡ 1 = ap one_if (text_is_key column.kind e) in
        let more = keys_step column columns in
        absurd (omega (arith, few, more, key))

pub no_id_behind : (column : Column) (columns : List Column) → count_of is_key (column ∷ columns) ≤ 1 → is_text_key column.kind ≡ true → has_text_key columns ≡ false
no_id_behind column columns few text = no_text_key columns (keys_behind column columns 0 few text)

-- ---- the values again

-- without a text key the id is not asked for
value_any_id : (kind : Kind) (rowid : ℤ) (a b : Option (List ℕ)) (kept : KeptValues) → is_text_key kind ≡ false → woven_value kind rowid a kept ≡ woven_value kind rowid b kept
value_any_id IntKey rowid a b kept no_text = refl
value_any_id TextKey rowid a b kept no_text = absurd cc
value_any_id (Int8Vector width metric) rowid a b kept no_text = refl
value_any_id (BitVector width) rowid a b kept no_text = refl
value_any_id IntPartition rowid a b kept no_text = refl
value_any_id TextPartition rowid a b kept no_text = refl
value_any_id IntMeta rowid a b kept no_text = refl
value_any_id TextMeta rowid a b kept no_text = refl
value_any_id BoolMeta rowid a b kept no_text = refl
value_any_id IntAux rowid a b kept no_text = refl
value_any_id TextAux rowid a b kept no_text = refl
value_any_id BlobAux rowid a b kept no_text = refl

any_id : (columns : List Column) (rowid : ℤ) (a b : Option (List ℕ)) (kept : KeptValues) → has_text_key columns ≡ false → woven columns rowid a kept ≡ woven columns rowid b kept
any_id [] rowid a b kept no_text = refl
any_id (column ∷ columns) rowid a b kept no_text =
    ap₂ (λ (x : Value) (xs : List Value). x ∷ xs)
    (value_any_id column.kind rowid a b kept (or_first (is_text_key column.kind) (has_text_key columns) no_text))
    (any_id columns rowid a b (behind column.kind kept) (or_second (is_text_key column.kind) (has_text_key columns) no_text))

past_part : (b : Bool) (x : Value) (xs : List Value) → past b (cond b (x ∷ xs) xs) ≡ xs
past_part true x xs = refl
past_part false x xs = refl

kept_first : (column : Column) (columns : List Column) (rowid : ℤ) (value : Value) (values : List Value) → are_valid_values (column ∷ columns) rowid (value ∷ values) ≡ true →
    IsKept column.kind rowid value
kept_first column columns rowid value values valid = kept column.kind rowid value (and_parts (is_valid_value column.kind rowid value) (are_valid_values columns rowid values) valid).0

-- what is left behind a column is what is kept of the values behind its own
behind_kept : (kind : Kind) (value : Value) (kept : KeptValues) → past (is_vector kind) (cons_option (vector_of value) kept.vectors) ≡ kept.vectors → behind kind (with_kept kind value kept) ≡ kept
behind_kept kind value kept vectors =
    ap₂ (λ (p c : List Value). kept_with p (past (is_vector kind) (cons_option (vector_of value) kept.vectors)) c) (past_part (is_partition kind) value kept.partition) (past_part (is_cell kind) value kept.cells)
    ∙ ap (λ (v : List (List ℕ)). kept_with kept.partition v kept.cells) vectors
  where
    kept_with : List Value → List (List ℕ) → List Value → KeptValues
    kept_with p v c = record { partition = p; vectors = v; cells = c }

woven_again : (columns : List Column) (rowid : ℤ) (values : List Value) → count_of is_key columns ≤ 1 → are_valid_values columns rowid values ≡ true →
    woven columns rowid (id_in columns values) (kept_of columns values) ≡ values
woven_again [] rowid [] few valid = refl
woven_again [] rowid (value ∷ values) few valid = absurd cc
woven_again (column ∷ columns) rowid [] few valid = absurd cc
woven_again (column ∷ columns) rowid (value ∷ values) few valid =
    let one = kept_first column columns rowid value values valid in
    let id = id_in (column ∷ columns) (value ∷ values) in
    let others = kept_of columns values in
    let rest = woven_again columns rowid values (fewer_keys column columns few) (and_parts (is_valid_value column.kind rowid value) (are_valid_values columns rowid values) valid).1 in
    ap₂ (λ (x : Value) (xs : List Value). x ∷ xs)
    (one.back id others (λ text. own (is_text_key column.kind) text))
    (ap (λ (k : KeptValues). woven columns rowid id k) (behind_kept column.kind value others (one.rest others.vectors)) ∙ same_rest (is_text_key column.kind) (no_id_behind column columns few) ∙ rest)
  where
    own : (b : Bool) → b ≡ true → (if b then text_in value else id_in columns values) ≡ text_in value
    own true e = refl
    own false e = absurd cc

    same_rest : (b : Bool) → (b ≡ true → has_text_key columns ≡ false) →
        woven columns rowid (if b then text_in value else id_in columns values) (kept_of columns values) ≡ woven columns rowid (id_in columns values) (kept_of columns values)
    same_rest true none = any_id columns rowid (text_in value) (id_in columns values) (kept_of columns values) (none refl)
    same_rest false none = refl

-- What is kept of a row's values gives them back.
pub woven-back : (columns : List Column) (rowid : ℤ) (values : List Value) → nat_lt 1 (count_of is_key columns) ≡ false → are_valid_values columns rowid values ≡ true →
    woven columns rowid (id_in columns values) (kept_of columns values) ≡ values
woven-back columns rowid values few valid =
    let keys = ltb-false 1 (count_of is_key columns) few in
    woven_again columns rowid values (omega (arith, keys)) valid

-- ---- partition values

-- partition values are numbers and texts
pub partition-values : (columns : List Column) (rowid : ℤ) (values : List Value) → are_valid_values columns rowid values ≡ true → list_all is_partition_value (partition_of columns values) ≡ true
partition-values [] rowid [] valid = refl
partition-values [] rowid (value ∷ values) valid = absurd cc
partition-values (column ∷ columns) rowid [] valid = absurd cc
partition-values (column ∷ columns) rowid (value ∷ values) valid =
    (kept_first column columns rowid value values valid).fine (partition_of columns values)
    (partition-values columns rowid values (and_parts (is_valid_value column.kind rowid value) (are_valid_values columns rowid values) valid).1)

-- ---- cells

-- cells hold values of their columns' kinds
pub cells-fit : (columns : List Column) (rowid : ℤ) (values : List Value) → are_valid_values columns rowid values ≡ true → are_cell_values (kinds_of columns) (cells_of columns values) ≡ true
cells-fit [] rowid [] valid = refl
cells-fit [] rowid (value ∷ values) valid = absurd cc
cells-fit (column ∷ columns) rowid [] valid = absurd cc
cells-fit (column ∷ columns) rowid (value ∷ values) valid =
    (kept_first column columns rowid value values valid).cell (kinds_of columns) (cells_of columns values)
    (cells-fit columns rowid values (and_parts (is_valid_value column.kind rowid value) (are_valid_values columns rowid values) valid).1)

-- each kind is one of a column that has cells
pub all_cells : (columns : List Column) → list_all is_cell (kinds_of columns) ≡ true
all_cells [] = refl
all_cells (column ∷ columns) = by_test (is_cell column.kind) refl (all_cells columns) where
  by_test : (b : Bool) → is_cell column.kind ≡ b → list_all is_cell (kinds_of columns) ≡ true → list_all is_cell (cond b (column.kind ∷ kinds_of columns) (kinds_of columns)) ≡ true
  by_test true e rest = and_from _ _ e rest
  by_test false e rest = rest

-- ---- widths

-- each vector is as wide as its column
pub widths-fit : (columns : List Column) (rowid : ℤ) (values : List Value) → are_valid_values columns rowid values ≡ true → map length (vectors_of values) ≡ widths_of columns
widths-fit [] rowid [] valid = refl
widths-fit [] rowid (value ∷ values) valid = absurd cc
widths-fit (column ∷ columns) rowid [] valid = absurd cc
widths-fit (column ∷ columns) rowid (value ∷ values) valid =
    (kept_first column columns rowid value values valid).wide (vectors_of values)
    ∙ ap (λ (widths : List ℕ). cons_option (vector_width column.kind) widths)
    (widths-fit columns rowid values (and_parts (is_valid_value column.kind rowid value) (are_valid_values columns rowid values) valid).1)

vectors_step : (column : Column) (columns : List Column) → count_of is_vector (column ∷ columns) ≡ one_if (is_vector column.kind) + count_of is_vector columns
vectors_step column columns = sum_by-cons (λ (c : Column). one_if (is_vector c.kind)) column columns

pub one_width : (kind : Kind) (widths : List ℕ) → length (cons_option (vector_width kind) widths) ≡ one_if (is_vector kind) + length widths
one_width (Int8Vector width metric) widths = omega arith
one_width (BitVector width) widths = omega arith
one_width IntKey widths = omega arith
one_width TextKey widths = omega arith
one_width IntPartition widths = omega arith
one_width TextPartition widths = omega arith
one_width IntMeta widths = omega arith
one_width TextMeta widths = omega arith
one_width BoolMeta widths = omega arith
one_width IntAux widths = omega arith
one_width TextAux widths = omega arith
one_width BlobAux widths = omega arith

-- there is one for each vector column
pub widths-counted : (columns : List Column) → length (widths_of columns) ≡ count_of is_vector columns
widths-counted [] = refl
widths-counted (column ∷ columns) =
    let here = one_width column.kind (widths_of columns) in
    let step = vectors_step column columns in
    let rest = widths-counted columns in
    omega (arith, here, step, rest)

pub few-widths : (schema : Schema) → IsValidSchema schema → length (widths_of schema.columns) ≤ MOST_VECTOR_COLUMNS
few-widths schema valid =
    let most = ltb-false 16 (count_of is_vector schema.columns) (faultless schema valid.rules).vectors in
    let counted = widths-counted schema.columns in
    omega (arith, most, counted)

-- a vector of the column has a byte or more, and no more than the most
abbrev pub IsWidth : ℕ → Type 0
IsWidth width = (1 ≤ width) × (width ≤ MOST_DIMENSIONS)

within : (least most n : ℕ) → not (nat_le least n && nat_le n most) ≡ false → (least ≤ n) × (n ≤ most)
within least most n h =
    let parts = and_parts (nat_le least n) (nat_le n most) (not_false (nat_le least n && nat_le n most) h) in
    (leb-true least n parts.0, leb-true n most parts.1)

within_eights : (most n : ℕ) → not (n % 8 == 0 && nat_le 8 n && nat_le n most) ≡ false → (n % 8 ≡ 0) × (8 ≤ n) × (n ≤ most)
within_eights most n h =
    let parts = and_parts (n % 8 == 0 && nat_le 8 n) (nat_le n most) (not_false (n % 8 == 0 && nat_le 8 n && nat_le n most) h) in
    let firsts = and_parts (n % 8 == 0) (nat_le 8 n) parts.0 in
    (eqb-true (n % 8) 0 firsts.0, leb-true 8 n firsts.1, leb-true n most parts.1)

width_put : (kind : Kind) (widths : List ℕ) → is_misfit_int8 kind ≡ false → is_misfit_bits kind ≡ false → AllByRecursion IsWidth widths → AllByRecursion IsWidth (cons_option (vector_width kind) widths)
width_put (Int8Vector width metric) widths int8 bits all = (within 1 MOST_DIMENSIONS width int8, all)
width_put (BitVector width) widths int8 bits all =
    let fits = within_eights MOST_DIMENSIONS width bits in
    ((least width fits.1, most width fits.2), all)
  where
    least : (width : ℕ) → 8 ≤ width → 1 ≤ width / 8
    least width low = omega (arith, low)

    most : (width : ℕ) → width ≤ MOST_DIMENSIONS → width / 8 ≤ MOST_DIMENSIONS
    most width high = omega (arith, high)
width_put IntKey widths int8 bits all = all
width_put TextKey widths int8 bits all = all
width_put IntPartition widths int8 bits all = all
width_put TextPartition widths int8 bits all = all
width_put IntMeta widths int8 bits all = all
width_put TextMeta widths int8 bits all = all
width_put BoolMeta widths int8 bits all = all
width_put IntAux widths int8 bits all = all
width_put TextAux widths int8 bits all = all
width_put BlobAux widths int8 bits all = all

all_widths : (columns : List Column) → has_some is_misfit_int8 columns ≡ false → has_some is_misfit_bits columns ≡ false → AllByRecursion IsWidth (widths_of columns)
all_widths [] int8 bits = tt
all_widths (column ∷ columns) int8 bits =
    width_put column.kind (widths_of columns) (or_first (is_misfit_int8 column.kind) (has_some is_misfit_int8 columns) int8)
    (or_first (is_misfit_bits column.kind) (has_some is_misfit_bits columns) bits)
    (all_widths columns (or_second (is_misfit_int8 column.kind) (has_some is_misfit_int8 columns) int8) (or_second (is_misfit_bits column.kind) (has_some is_misfit_bits columns) bits))

pub narrow-widths : (schema : Schema) → IsValidSchema schema → AllByRecursion IsWidth (widths_of schema.columns)
narrow-widths schema valid = let rules = faultless schema valid.rules in all_widths schema.columns rules.int8 rules.bits

all_at : {A : Type 0} (P Q : A → Type 0) (xs : List A) → ((x : A) → P x → Q x) → AllByRecursion P xs → All Q xs
all_at P Q [] weaker all k d low = absurd (omega arith)
all_at P Q (x ∷ xs) weaker all zero d low = weaker x all.0
all_at P Q (x ∷ xs) weaker all (suc k) d low = all_at P Q xs weaker all.1 k d (omega (arith, low))

-- no vector of a valid schema has more bytes than a vector has dimensions at most
pub short-widths : (schema : Schema) → IsValidSchema schema → All (λ width. width ≤ MOST_DIMENSIONS) (widths_of schema.columns)
short-widths schema valid = all_at IsWidth (λ width. width ≤ MOST_DIMENSIONS) (widths_of schema.columns) (λ width fits. fits.1) (narrow-widths schema valid)

-- ---- text ids

same_text : (a b : List ℕ) → (bytes_eq a b || false) ≡ bytes_eq a b
same_text a b = elim (bytes_eq a b) as (λ c. (c || false) ≡ c) [ true ↦ refl | false ↦ refl ]

no_id : (columns : List Column) (us vs : List Value) → has_text_key columns ≡ false → same_id columns us vs ≡ false
no_id [] us vs none = refl
no_id (column ∷ columns) [] vs none = refl
no_id (column ∷ columns) (u ∷ us) [] none = refl
no_id (column ∷ columns) (u ∷ us) (v ∷ vs) none =
    by_test (is_text_key column.kind) (or_first (is_text_key column.kind) (has_text_key columns) none)
    (no_id columns us vs (or_second (is_text_key column.kind) (has_text_key columns) none))
  where
    by_test : (b : Bool) → b ≡ false → same_id columns us vs ≡ false → ((b && is_same_text u v) || same_id columns us vs) ≡ false
    by_test true e rest = absurd cc
    by_test false e rest = rest

-- a valid value of a text key is a text
key_text : (kind : Kind) (rowid : ℤ) (value : Value) → is_text_key kind ≡ true → is_valid_value kind rowid value ≡ true → (text : List ℕ) × (value ≡ Text text)
key_text TextKey rowid value key valid = text_shape value (typed TextKey value (not_null (is_null value) (is_fitting TextKey value) valid))
key_text IntKey rowid value key valid = absurd cc
key_text (Int8Vector width metric) rowid value key valid = absurd cc
key_text (BitVector width) rowid value key valid = absurd cc
key_text IntPartition rowid value key valid = absurd cc
key_text TextPartition rowid value key valid = absurd cc
key_text IntMeta rowid value key valid = absurd cc
key_text TextMeta rowid value key valid = absurd cc
key_text BoolMeta rowid value key valid = absurd cc
key_text IntAux rowid value key valid = absurd cc
key_text TextAux rowid value key valid = absurd cc
key_text BlobAux rowid value key valid = absurd cc

text_values : (u v : Value) (a b : List ℕ) (same : Bool) → u ≡ Text a → v ≡ Text b → same ≡ false → (is_same_text u v || same) ≡ is_one_id (text_in u) (text_in v)
text_values u v a b same is_a is_b none = rw (is_a, is_b, none) (same_text a b)

one_id : (columns : List Column) (n m : ℤ) (us vs : List Value) → count_of is_key columns ≤ 1 → are_valid_values columns n us ≡ true → are_valid_values columns m vs ≡ true →
    same_id columns us vs ≡ is_one_id (id_in columns us) (id_in columns vs)
one_id [] n m us vs few left right = refl
one_id (column ∷ columns) n m [] vs few left right = absurd cc
one_id (column ∷ columns) n m (u ∷ us) [] few left right = absurd cc
one_id (column ∷ columns) n m (u ∷ us) (v ∷ vs) few left right =
    let lefts = and_parts (is_valid_value column.kind n u) (are_valid_values columns n us) left in
    let rights = and_parts (is_valid_value column.kind m v) (are_valid_values columns m vs) right in
    by_test (is_text_key column.kind) (λ e. key_text column.kind n u e lefts.0) (λ e. key_text column.kind m v e rights.0)
    (λ e. no_id columns us vs (no_id_behind column columns few e))
    (one_id columns n m us vs (fewer_keys column columns few) lefts.1 rights.1)
  where
    by_test : (b : Bool) → (b ≡ true → (text : List ℕ) × (u ≡ Text text)) → (b ≡ true → (text : List ℕ) × (v ≡ Text text)) → (b ≡ true → same_id columns us vs ≡ false) →
        same_id columns us vs ≡ is_one_id (id_in columns us) (id_in columns vs) →
        ((b && is_same_text u v) || same_id columns us vs) ≡ is_one_id (if b then text_in u else id_in columns us) (if b then text_in v else id_in columns vs)
    by_test true here there none rest = text_values u v (here refl).0 (there refl).0 (same_id columns us vs) (here refl).1 (there refl).1 (none refl)
    by_test false here there none rest = rest

-- Two rows have one text id exactly where the texts in the column of their key are there and equal.
pub same_id-texts : (columns : List Column) (n m : ℤ) (us vs : List Value) → nat_lt 1 (count_of is_key columns) ≡ false →
    are_valid_values columns n us ≡ true → are_valid_values columns m vs ≡ true → same_id columns us vs ≡ is_one_id (id_in columns us) (id_in columns vs)
same_id-texts columns n m us vs few left right =
    let keys = ltb-false 1 (count_of is_key columns) few in
    one_id columns n m us vs (omega (arith, keys)) left right

-- both are there, and are one text
pub one_id-equal : (a b : Option (List ℕ)) → is_one_id a b ≡ true → (text : List ℕ) × (a ≡ Some text) × (b ≡ Some text)
one_id-equal (Some a) (Some b) h = (a, refl, ap Some (sym ((bytes_eq-Decides a b).0 h)))
one_id-equal (Some a) None h = absurd cc
one_id-equal None b h = absurd cc

pub one_id-from : (text : List ℕ) → is_one_id (Some text) (Some text) ≡ true
one_id-from text = (bytes_eq-Decides text text).1 refl

-- a valid row has a text id exactly where the columns have a text key
pub id_in-there : (columns : List Column) (rowid : ℤ) (values : List Value) → are_valid_values columns rowid values ≡ true → is_some (id_in columns values) ≡ has_text_key columns
id_in-there [] rowid values valid = refl
id_in-there (column ∷ columns) rowid [] valid = absurd cc
id_in-there (column ∷ columns) rowid (value ∷ values) valid =
    let parts = and_parts (is_valid_value column.kind rowid value) (are_valid_values columns rowid values) valid in
    by_test (is_text_key column.kind) (λ e. key_text column.kind rowid value e parts.0) (id_in-there columns rowid values parts.1)
  where
    by_test : (b : Bool) → (b ≡ true → (text : List ℕ) × (value ≡ Text text)) → is_some (id_in columns values) ≡ has_text_key columns →
        is_some (if b then text_in value else id_in columns values) ≡ (b || has_text_key columns)
    by_test true here rest = ap (λ (v : Value). is_some (text_in v)) (here refl).1
    by_test false here rest = rest

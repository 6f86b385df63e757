-- The bytes of a row, counted by what is kept of it.
use Rattle.std.proofs.Common.{◌≡◌, ℕ, ℤ, ◌+◌, ◌*◌, ◌≤◌, Bool, true, false, cond, List, [], ◌∷◌, ◌∙◌, refl, ap, arith, map, length, Option, Some, None}
use Rattle.std.specs.Prelude.{nat_lt, sum_by, if◌then◌else◌}
use Rattle.std.specs.List.{list_all, cons_option, AllByRecursion}
use Rattle.std.proofs.lemmas.Bool.{and_parts, ltb-false}
use Rattle.std.proofs.lemmas.List.Sums.{sum_by-cons}
use Rattle.vec_base.specs.declared.limits.TheConstants.{MOST_VALUE_BYTES}
use Rattle.vec_base.specs.declared.value.Value.{Value}
use Rattle.vec_base.specs.declared.value.Value.TheVariants.{Null, Int, Text, Blob, Int8, Bits}
use Rattle.row_model.specs.Change.{rows_vector_bytes}
use Rattle.row_model.specs.ColumnNames.{is_text_key}
use Rattle.row_model.specs.Schemas.{is_key, is_partition, count_of, IsValidSchema}
use Rattle.row_model.specs.Valid.{is_fitting, is_valid_value, are_valid_values, is_valid_row}
use Rattle.row_model.specs.Values.{is_null, is_text, side_bytes, vector_bytes, row_vector_bytes}
use Rattle.row_model.specs.declared.row.Row.{Row}
use Rattle.row_model.specs.declared.schema.Column.{Column}
use Rattle.row_model.specs.declared.schema.Kind.{Kind}
use Rattle.row_model.specs.declared.schema.Kind.TheVariants.{IntKey, TextKey, Int8Vector, BitVector, IntPartition, TextPartition, IntMeta, TextMeta, BoolMeta, IntAux, TextAux, BlobAux}
use Rattle.row_model.specs.declared.schema.Schema.{Schema}
use Rattle.shadow_records.specs.PlacedTables.{partition_of}
use Rattle.row_chunks.specs.Cells.{cells_of, is_cell}
use Rattle.chunk_slots.specs.Slots.{vector_of, vectors_of}
use Rattle.table_version.proofs.ByteLaws.{values-small, IsSmall}
use Rattle.table_version.proofs.KeptLaws.{id-all, id_in-none, partition-all}
use Rattle.table_version.proofs.WeavingLaws.{bits_shape, fewer_keys, int8_shape, no_id_behind, not_null, number_shape, typed, widths-fit}
use Rattle.table_version.specs.Kept.{id_in, text_in, widths_of}
use Rattle.table_version.specs.inner.StoredBytes.{total_width}

-- ---- vectors

-- the bytes of some vectors
abbrev pub lengths : List (List ℕ) → ℕ
lengths vectors = sum_by length vectors

lengths_put : (value : Value) (vectors : List (List ℕ)) → lengths (cons_option (vector_of value) vectors) ≡ vector_bytes value + lengths vectors
lengths_put Null vectors = omega arith
lengths_put (Int n) vectors = omega arith
lengths_put (Text text) vectors = omega arith
lengths_put (Blob bytes) vectors = omega arith
lengths_put (Int8 vector) vectors = sum_by-cons length vector vectors
lengths_put (Bits vector) vectors = sum_by-cons length vector vectors

pub vector_bytes-kept : (values : List Value) → sum_by vector_bytes values ≡ lengths (vectors_of values)
vector_bytes-kept [] = refl
vector_bytes-kept (value ∷ values) =
    let one = sum_by-cons vector_bytes value values in
    let here = lengths_put value (vectors_of values) in
    let rest = vector_bytes-kept values in
    omega (arith, one, here, rest)

lengths_by_widths : (vectors : List (List ℕ)) → lengths vectors ≡ total_width (map length vectors)
lengths_by_widths [] = refl
lengths_by_widths (vector ∷ vectors) =
    let one = sum_by-cons length vector vectors in
    let wide = sum_by-cons (λ (width : ℕ). width) (length vector) (map length vectors) in
    let rest = lengths_by_widths vectors in
    omega (arith, one, wide, rest)

-- each row has the bytes that its columns say
pub vector_bytes-fixed : (columns : List Column) (rowid : ℤ) (values : List Value) → are_valid_values columns rowid values ≡ true → sum_by vector_bytes values ≡ total_width (widths_of columns)
vector_bytes-fixed columns rowid values valid =
    vector_bytes-kept values ∙ lengths_by_widths (vectors_of values) ∙ ap total_width (widths-fit columns rowid values valid)

-- so the bytes of all vectors are counted by the rows
pub rows_vector_bytes-fixed : (columns : List Column) (rows : List Row) → list_all (is_valid_row columns) rows ≡ true → rows_vector_bytes rows ≡ length rows * total_width (widths_of columns)
rows_vector_bytes-fixed columns [] all = omega arith
rows_vector_bytes-fixed columns (r ∷ rs) all =
    let parts = and_parts (is_valid_row columns r) (list_all (is_valid_row columns) rs) all in
    let here : row_vector_bytes r ≡ total_width (widths_of columns) = vector_bytes-fixed columns r.rowid r.values parts.0 in
    let step = sum_by-cons row_vector_bytes r rs in
    let rest = rows_vector_bytes-fixed columns rs parts.1 in
    omega (arith, here, step, rest)

-- ---- texts

abbrev pub id_bytes : Option (List ℕ) → ℕ
id_bytes None = 0
id_bytes (Some text) = length text

-- a text or a blob is that of a text key, of a partition column or of a cell
abbrev counted : Kind → Value → ℕ
counted kind value = cond (is_partition kind) (side_bytes value) 0 + cond (is_cell kind) (side_bytes value) 0

no_sides : (n : ℕ) → n ≡ 0 → n ≡ 0 + 0
no_sides n e = omega (arith, e)

first_sides : (n : ℕ) → n ≡ n + 0
first_sides n = omega arith

second_sides : (n : ℕ) → n ≡ 0 + n
second_sides n = omega arith

side_one : (kind : Kind) (rowid : ℤ) (value : Value) → is_valid_value kind rowid value ≡ true → is_text_key kind ≡ false → side_bytes value ≡ counted kind value
side_one TextKey rowid value valid no_text = absurd cc
side_one IntKey rowid value valid no_text = no_sides (side_bytes value) (ap side_bytes (number_shape rowid value valid))
side_one (Int8Vector width metric) rowid value valid no_text =
    no_sides (side_bytes value) (ap side_bytes (int8_shape value (typed (Int8Vector width metric) value (not_null (is_null value) (is_fitting (Int8Vector width metric) value) valid))).1)
side_one (BitVector width) rowid value valid no_text =
    no_sides (side_bytes value) (ap side_bytes (bits_shape value (typed (BitVector width) value (not_null (is_null value) (is_fitting (BitVector width) value) valid))).1)
side_one IntPartition rowid value valid no_text = first_sides (side_bytes value)
side_one TextPartition rowid value valid no_text = first_sides (side_bytes value)
side_one IntMeta rowid value valid no_text = second_sides (side_bytes value)
side_one TextMeta rowid value valid no_text = second_sides (side_bytes value)
side_one BoolMeta rowid value valid no_text = second_sides (side_bytes value)
side_one IntAux rowid value valid no_text = second_sides (side_bytes value)
side_one TextAux rowid value valid no_text = second_sides (side_bytes value)
side_one BlobAux rowid value valid no_text = second_sides (side_bytes value)

-- a text key's own bytes
side_text : (kind : Kind) (rowid : ℤ) (value : Value) → is_valid_value kind rowid value ≡ true → is_text_key kind ≡ true → (side_bytes value ≡ id_bytes (text_in value)) × (counted kind value ≡ 0)
side_text TextKey rowid value valid text = (by_value value (typed TextKey value (not_null (is_null value) (is_fitting TextKey value) valid)), refl)
  where
    by_value : (value : Value) → is_text value ≡ true → side_bytes value ≡ id_bytes (text_in value)
    by_value (Text text) h = refl
    by_value Null h = absurd cc
    by_value (Int n) h = absurd cc
    by_value (Blob bytes) h = absurd cc
    by_value (Int8 vector) h = absurd cc
    by_value (Bits vector) h = absurd cc
side_text IntKey rowid value valid text = absurd cc
side_text (Int8Vector width metric) rowid value valid text = absurd cc
side_text (BitVector width) rowid value valid text = absurd cc
side_text IntPartition rowid value valid text = absurd cc
side_text TextPartition rowid value valid text = absurd cc
side_text IntMeta rowid value valid text = absurd cc
side_text TextMeta rowid value valid text = absurd cc
side_text BoolMeta rowid value valid text = absurd cc
side_text IntAux rowid value valid text = absurd cc
side_text TextAux rowid value valid text = absurd cc
side_text BlobAux rowid value valid text = absurd cc

part_bytes : (b : Bool) (value : Value) (others : List Value) → sum_by side_bytes (cond b (value ∷ others) others) ≡ cond b (side_bytes value) 0 + sum_by side_bytes others
part_bytes true value others = sum_by-cons side_bytes value others
part_bytes false value others = omega arith

sides : (columns : List Column) (rowid : ℤ) (values : List Value) → count_of is_key columns ≤ 1 → are_valid_values columns rowid values ≡ true →
    sum_by side_bytes values ≡ id_bytes (id_in columns values) + sum_by side_bytes (partition_of columns values) + sum_by side_bytes (cells_of columns values)
sides [] rowid [] few valid = refl
sides [] rowid (value ∷ values) few valid = absurd cc
sides (column ∷ columns) rowid [] few valid = absurd cc
sides (column ∷ columns) rowid (value ∷ values) few valid =
    let parts = and_parts (is_valid_value column.kind rowid value) (are_valid_values columns rowid values) valid in
    let rest = sides columns rowid values (fewer_keys column columns few) parts.1 in
    let whole = sum_by-cons side_bytes value values in
    let part = part_bytes (is_partition column.kind) value (partition_of columns values) in
    let cell = part_bytes (is_cell column.kind) value (cells_of columns values) in
    by_test (is_text_key column.kind) rest whole part cell
    (λ e. side_text column.kind rowid value parts.0 e)
    (λ e. id_in-none columns values (no_id_behind column columns few e))
    (λ e. side_one column.kind rowid value parts.0 e)
  where
    by_test : (b : Bool) → sum_by side_bytes values ≡ id_bytes (id_in columns values) + sum_by side_bytes (partition_of columns values) + sum_by side_bytes (cells_of columns values) →
        sum_by side_bytes (value ∷ values) ≡ side_bytes value + sum_by side_bytes values →
        sum_by side_bytes (partition_of (column ∷ columns) (value ∷ values)) ≡ cond (is_partition column.kind) (side_bytes value) 0 + sum_by side_bytes (partition_of columns values) →
        sum_by side_bytes (cells_of (column ∷ columns) (value ∷ values)) ≡ cond (is_cell column.kind) (side_bytes value) 0 + sum_by side_bytes (cells_of columns values) →
        (b ≡ true → (side_bytes value ≡ id_bytes (text_in value)) × (counted column.kind value ≡ 0)) →
        (b ≡ true → id_in columns values ≡ None) →
        (b ≡ false → side_bytes value ≡ counted column.kind value) →
        sum_by side_bytes (value ∷ values) ≡ id_bytes (if b then text_in value else id_in columns values) + sum_by side_bytes (partition_of (column ∷ columns) (value ∷ values))
        + sum_by side_bytes (cells_of (column ∷ columns) (value ∷ values))
    by_test true rest whole part cell text none other =
        let here = (text refl).0 in
        let nothing = (text refl).1 in
        let no_id : id_bytes (id_in columns values) ≡ 0 = ap id_bytes (none refl) in
        omega (arith, rest, whole, part, cell, here, nothing, no_id)
    by_test false rest whole part cell text none other = let here = other refl in omega (arith, rest, whole, part, cell, here)

-- the bytes of a row's texts and blobs are those of its text id, its partition values and its cells
pub side_bytes-kept : (columns : List Column) (rowid : ℤ) (values : List Value) → nat_lt 1 (count_of is_key columns) ≡ false → are_valid_values columns rowid values ≡ true →
    sum_by side_bytes values ≡ id_bytes (id_in columns values) + sum_by side_bytes (partition_of columns values) + sum_by side_bytes (cells_of columns values)
side_bytes-kept columns rowid values few valid =
    let keys = ltb-false 1 (count_of is_key columns) few in
    sides columns rowid values (omega (arith, keys)) valid

-- ---- no text is too long

pub id-short : (schema : Schema) (rowid : ℤ) (values : List Value) (text : List ℕ) → IsValidSchema schema → are_valid_values schema.columns rowid values ≡ true →
    id_in schema.columns values ≡ Some text → length text ≤ MOST_VALUE_BYTES
id-short schema rowid values text valid fits there = (id-all IsSmall schema.columns values text (values-small schema rowid values valid fits) there).side

pub partition-short : (schema : Schema) (rowid : ℤ) (values : List Value) → IsValidSchema schema → are_valid_values schema.columns rowid values ≡ true →
    AllByRecursion IsSmall (partition_of schema.columns values)
partition-short schema rowid values valid fits = partition-all IsSmall schema.columns values (values-small schema rowid values valid fits)

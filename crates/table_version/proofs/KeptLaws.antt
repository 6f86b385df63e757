-- What is kept of a row: what holds of all its values holds of that too.
use Rattle.std.proofs.Common.{◌≡◌, ℕ, ℤ, ◌+◌, ◌≤◌, Bool, true, false, cond, List, [], ◌∷◌, ◌∙◌, refl, sym, ap, subst, arith, length, Option, Some, None}
use Rattle.std.specs.Prelude.{if◌then◌else◌}
use Rattle.std.specs.List.{AllByRecursion}
use Rattle.std.specs.Str.{is_utf8}
use Rattle.std.proofs.lemmas.Bool.{and_parts, ltb-false}
use Rattle.std.proofs.lemmas.List.Sums.{sum_by-cons}
use Rattle.vec_base.specs.Representable.{AreBytes, IsRepresentable}
use Rattle.vec_base.specs.declared.limits.TheConstants.{MOST_PARTITION_COLUMNS}
use Rattle.vec_base.specs.declared.value.Value.{Value}
use Rattle.vec_base.specs.declared.value.Value.TheVariants.{Null, Int, Text, Blob, Int8, Bits}
use Rattle.row_model.specs.ColumnNames.{is_text_key, has_text_key}
use Rattle.row_model.specs.RepresentableStatements.{AreRepresentable}
use Rattle.row_model.specs.Schemas.{is_partition, count_of, IsValidSchema}
use Rattle.row_model.specs.Valid.{is_valid_value, are_valid_values}
use Rattle.row_model.specs.declared.schema.Column.{Column}
use Rattle.row_model.specs.declared.schema.Kind.{Kind}
use Rattle.row_model.specs.declared.schema.Schema.{Schema}
use Rattle.row_model.proofs.BoolLaws.{or_first, or_second}
use Rattle.row_model.proofs.SchemaLaws.{faultless}
use Rattle.shadow_records.specs.PlacedTables.{partition_of}
use Rattle.row_chunks.specs.Cells.{cells_of, is_cell}
use Rattle.chunk_slots.specs.Slots.{vectors_of}
use Rattle.table_version.specs.Kept.{text_in, id_in}

-- ---- what holds of all values

pub partition-all : (P : Value → Type 0) (columns : List Column) (values : List Value) → AllByRecursion P values → AllByRecursion P (partition_of columns values)
partition-all P [] values all = tt
partition-all P (column ∷ columns) [] all = tt
partition-all P (column ∷ columns) (value ∷ values) all =
    elim (is_partition column.kind) as (λ b. AllByRecursion P (cond b (value ∷ partition_of columns values) (partition_of columns values)))
    [ true ↦ (all.0, partition-all P columns values all.1) | false ↦ partition-all P columns values all.1 ]

pub cells-all : (P : Value → Type 0) (columns : List Column) (values : List Value) → AllByRecursion P values → AllByRecursion P (cells_of columns values)
cells-all P [] values all = tt
cells-all P (column ∷ columns) [] all = tt
cells-all P (column ∷ columns) (value ∷ values) all =
    elim (is_cell column.kind) as (λ b. AllByRecursion P (cond b (value ∷ cells_of columns values) (cells_of columns values)))
    [ true ↦ (all.0, cells-all P columns values all.1) | false ↦ cells-all P columns values all.1 ]

the_text : (value : Value) (text : List ℕ) → text_in value ≡ Some text → value ≡ Text text
the_text (Text a) text h = ap (λ o. Text (text_or o)) h
  where
    text_or : Option (List ℕ) → List ℕ
    text_or None = []
    text_or (Some t) = t
the_text Null text h = absurd cc
the_text (Int n) text h = absurd cc
the_text (Blob bytes) text h = absurd cc
the_text (Int8 vector) text h = absurd cc
the_text (Bits vector) text h = absurd cc

pub id-all : (P : Value → Type 0) (columns : List Column) (values : List Value) (text : List ℕ) → AllByRecursion P values → id_in columns values ≡ Some text → P (Text text)
id-all P [] values text all h = absurd cc
id-all P (column ∷ columns) [] text all h = absurd cc
id-all P (column ∷ columns) (value ∷ values) text all h =
    elim (is_text_key column.kind) as (λ b. (if b then text_in value else id_in columns values) ≡ Some text → P (Text text))
    [ true ↦ λ e. subst P (the_text value text e) all.0 | false ↦ λ e. id-all P columns values text all.1 e ] h

-- ---- representable parts

pub partition-representable : (columns : List Column) (values : List Value) → AreRepresentable values → AreRepresentable (partition_of columns values)
partition-representable columns values all = partition-all IsRepresentable columns values all

pub id-representable : (columns : List Column) (values : List Value) (text : List ℕ) → AreRepresentable values → id_in columns values ≡ Some text → is_utf8 text ≡ true
id-representable columns values text all h = id-all IsRepresentable columns values text all h

pub vectors-representable : (values : List Value) → AreRepresentable values → AllByRecursion AreBytes (vectors_of values)
vectors-representable [] all = tt
vectors-representable (Null ∷ values) all = vectors-representable values all.1
vectors-representable (Int n ∷ values) all = vectors-representable values all.1
vectors-representable (Text text ∷ values) all = vectors-representable values all.1
vectors-representable (Blob bytes ∷ values) all = vectors-representable values all.1
vectors-representable (Int8 vector ∷ values) all = (all.0, vectors-representable values all.1)
vectors-representable (Bits vector ∷ values) all = (all.0, vectors-representable values all.1)

-- ---- counts

abbrev one_if : Bool → ℕ
one_if b = cond b 1 0

count_step : (sort : Kind → Bool) (column : Column) (columns : List Column) → count_of sort (column ∷ columns) ≡ one_if (sort column.kind) + count_of sort columns
count_step sort column columns = sum_by-cons (λ (c : Column). one_if (sort c.kind)) column columns

-- there is a value for each partition column
pub partition-counted : (columns : List Column) (rowid : ℤ) (values : List Value) → are_valid_values columns rowid values ≡ true → length (partition_of columns values) ≡ count_of is_partition columns
partition-counted [] rowid [] valid = refl
partition-counted [] rowid (value ∷ values) valid = absurd cc
partition-counted (column ∷ columns) rowid [] valid = absurd cc
partition-counted (column ∷ columns) rowid (value ∷ values) valid =
    let rest = partition-counted columns rowid values (and_parts (is_valid_value column.kind rowid value) (are_valid_values columns rowid values) valid).1 in
    let step = count_step is_partition column columns in
    by_test (is_partition column.kind) rest ∙ sym step
  where
    by_test : (b : Bool) → length (partition_of columns values) ≡ count_of is_partition columns →
        length (cond b (value ∷ partition_of columns values) (partition_of columns values)) ≡ one_if b + count_of is_partition columns
    by_test true e = omega (arith, e)
    by_test false e = omega (arith, e)

pub few-partition : (schema : Schema) → IsValidSchema schema → count_of is_partition schema.columns ≤ MOST_PARTITION_COLUMNS
few-partition schema valid = let most = ltb-false 4 (count_of is_partition schema.columns) (faultless schema valid.rules).partitions in omega (arith, most)

-- ---- text ids

pub id_in-none : (columns : List Column) (values : List Value) → has_text_key columns ≡ false → id_in columns values ≡ None
id_in-none [] values none = refl
id_in-none (column ∷ columns) [] none = refl
id_in-none (column ∷ columns) (value ∷ values) none =
    by_test (is_text_key column.kind) (or_first (is_text_key column.kind) (has_text_key columns) none)
    (id_in-none columns values (or_second (is_text_key column.kind) (has_text_key columns) none))
  where
    by_test : (b : Bool) → b ≡ false → id_in columns values ≡ None → (if b then text_in value else id_in columns values) ≡ None
    by_test true e rest = absurd cc
    by_test false e rest = rest

-- the text id is kept, where there is one exactly where the columns have a text key

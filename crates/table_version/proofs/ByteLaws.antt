-- How many bytes rows have: within 64 bits, and what one row more or less makes of it.
use Rattle.std.proofs.Common.{◌≡◌, ℕ, ℤ, ◌+◌, ◌*◌, ◌<◌, ◌≤◌, Bool, true, false, cond, List, [], ◌∷◌, ◌∙◌, refl, sym, ap, arith, length, Option, Some, None}
use Rattle.std.specs.Prelude.{◌==◌, ◌%◌, ◌^◌, ◌&&◌, ◌||◌, not, filter, find, int_lt, nat_le, sum_by, if◌then◌else◌}
use Rattle.std.specs.List.{list_all, AllByRecursion}
use Rattle.std.specs.Ordering.{int_eq}
use Rattle.std.proofs.lemmas.Bool.{and_parts, eqb-true, leb-true}
use Rattle.std.proofs.lemmas.Int.{ints}
use Rattle.std.proofs.lemmas.List.Sums.{sum_by-cons}
use Rattle.vec_base.specs.declared.value.Value.{Value}
use Rattle.vec_base.specs.declared.value.Value.TheVariants.{Null, Int, Text, Blob, Int8, Bits}
use Rattle.vec_base.specs.declared.limits.TheConstants.{MOST_DIMENSIONS, MOST_ROWS, MOST_VALUE_BYTES}
use Rattle.row_model.specs.Change.{rows_side_bytes, rows_vector_bytes}
use Rattle.row_model.specs.Rows.{has_rowid, with_row, is_rising}
use Rattle.row_model.specs.Schemas.{has_some, is_auxiliary, is_misfit_int8, is_misfit_bits, IsValidSchema}
use Rattle.row_model.specs.Valid.{is_fitting, is_number, is_valid_value, are_valid_values, is_valid_row, IsValidTable}
use Rattle.row_model.specs.Values.{is_null, is_of_kind, is_shaped, dimensions, width_of, side_bytes, vector_bytes, row_side_bytes, row_vector_bytes}
use Rattle.row_model.specs.declared.row.Row.{Row}
use Rattle.row_model.specs.declared.row.Table.{Table}
use Rattle.row_model.specs.declared.schema.Column.{Column}
use Rattle.row_model.specs.declared.schema.Kind.{Kind}
use Rattle.row_model.specs.declared.schema.Kind.TheVariants.{IntKey, TextKey, Int8Vector, BitVector, IntPartition, TextPartition, IntMeta, TextMeta, BoolMeta, IntAux, TextAux, BlobAux}
use Rattle.row_model.specs.declared.schema.Schema.{Schema}
use Rattle.row_model.specs.declared.schema.TheConstants.{MOST_COLUMNS}
use Rattle.row_model.proofs.BoolLaws.{not_false, or_first, or_none, or_second}
use Rattle.row_model.proofs.SchemaLaws.{faultless, few_columns}
use Rattle.row_model.proofs.ValidityRows.{is_plainly_valid}

-- ---- one row more

pub sum-with_row : (f : Row → ℕ) (row : Row) (rows : List Row) → sum_by f (with_row row rows) ≡ f row + sum_by f rows
sum-with_row f row [] = sum_by-cons f row []
sum-with_row f row (r ∷ rs) =
    elim (int_lt row.rowid r.rowid) as (λ b. sum_by f (if b then row ∷ r ∷ rs else r ∷ with_row row rs) ≡ f row + sum_by f (r ∷ rs)) [
      | true ↦ sum_by-cons f row (r ∷ rs)
      | false ↦
          let old = sum_by-cons f r rs in
          let new = sum_by-cons f r (with_row row rs) in
          let rest = sum-with_row f row rs in
          omega (arith, old, new, rest)
    ]

pub vector_bytes-with : (row : Row) (rows : List Row) → rows_vector_bytes (with_row row rows) ≡ row_vector_bytes row + rows_vector_bytes rows
vector_bytes-with row rows = sum-with_row row_vector_bytes row rows

pub side_bytes-with : (row : Row) (rows : List Row) → rows_side_bytes (with_row row rows) ≡ row_side_bytes row + rows_side_bytes rows
side_bytes-with row rows = sum-with_row row_side_bytes row rows

-- ---- the rows of all other rowids

abbrev pub without : ℤ → List Row → List Row
without rowid rows = filter (λ row. not (int_eq row.rowid rowid)) rows

-- where no row has the rowid all stay
pub without-none : (rowid : ℤ) (rows : List Row) → has_rowid rowid rows ≡ false → without rowid rows ≡ rows
without-none rowid [] none = refl
without-none rowid (r ∷ rs) none =
    by_test (int_eq r.rowid rowid) (or_first (int_eq r.rowid rowid) (has_rowid rowid rs) none) (without-none rowid rs (or_second (int_eq r.rowid rowid) (has_rowid rowid rs) none))
  where
    by_test : (b : Bool) → b ≡ false → without rowid rs ≡ rs → cond (not b) (r ∷ without rowid rs) (without rowid rs) ≡ r ∷ rs
    by_test true e rest = absurd cc
    by_test false e rest = ap (λ (xs : List Row). r ∷ xs) rest

-- no row has the rowid
pub none-found : (rowid : ℤ) (rows : List Row) → find (λ row. int_eq row.rowid rowid) rows ≡ None → has_rowid rowid rows ≡ false
none-found rowid [] none = refl
none-found rowid (r ∷ rs) none =
    elim (int_eq r.rowid rowid) as (λ b. cond b (Some r) (find (λ row. int_eq row.rowid rowid) rs) ≡ None → (b || has_rowid rowid rs) ≡ false)
    [ true ↦ λ e. absurd cc | false ↦ λ e. none-found rowid rs e ] none

pub none_above : (low rowid : ℤ) (rows : List Row) → int_eq low rowid ≡ true → list_all (λ row. int_lt low row.rowid) rows ≡ true → has_rowid rowid rows ≡ false
none_above low rowid [] same above = refl
none_above low rowid (r ∷ rs) same above =
    let parts = and_parts (int_lt low r.rowid) (list_all (λ (row : Row). int_lt low row.rowid) rs) above in
    or_none (int_eq r.rowid rowid) (has_rowid rowid rs) (other low r.rowid rowid same parts.0) (none_above low rowid rs same parts.1)
  where
    other : (a b c : ℤ) → int_eq a c ≡ true → int_lt a b ≡ true → int_eq b c ≡ false
    other a b c e l = grind (arith, ints)

-- what the row of the rowid takes away
pub sum-without : (f : Row → ℕ) (rowid : ℤ) (rows : List Row) (row : Row) → is_rising rows ≡ true → find (λ r. int_eq r.rowid rowid) rows ≡ Some row →
    f row + sum_by f (without rowid rows) ≡ sum_by f rows
sum-without f rowid [] row rising found = absurd cc
sum-without f rowid (r ∷ rs) row rising found =
    let parts = and_parts (list_all (λ (later : Row). int_lt r.rowid later.rowid) rs) (is_rising rs) rising in
    by_test (int_eq r.rowid rowid) found (λ e. without-none rowid rs (none_above r.rowid rowid rs e parts.0)) (λ e. sum-without f rowid rs row parts.1 e)
  where
    row_or : Option Row → Row
    row_or None = r
    row_or (Some x) = x

    by_test : (b : Bool) → cond b (Some r) (find (λ (x : Row). int_eq x.rowid rowid) rs) ≡ Some row → (b ≡ true → without rowid rs ≡ rs) →
        (find (λ (x : Row). int_eq x.rowid rowid) rs ≡ Some row → f row + sum_by f (without rowid rs) ≡ sum_by f rs) →
        f row + sum_by f (cond (not b) (r ∷ without rowid rs) (without rowid rs)) ≡ sum_by f (r ∷ rs)
    by_test true e alone rest = ap (λ (xs : List Row). f row + sum_by f xs) (alone refl) ∙ ap (λ (x : Row). f x + sum_by f rs) (sym (ap row_or e)) ∙ sym (sum_by-cons f r rs)
    by_test false e alone rest =
        let old = sum_by-cons f r rs in
        let new = sum_by-cons f r (without rowid rs) in
        let less = rest e in
        omega (arith, old, new, less)

pub vector_bytes-without : (rowid : ℤ) (rows : List Row) (row : Row) → is_rising rows ≡ true → find (λ r. int_eq r.rowid rowid) rows ≡ Some row →
    row_vector_bytes row + rows_vector_bytes (without rowid rows) ≡ rows_vector_bytes rows
vector_bytes-without rowid rows row rising found = sum-without row_vector_bytes rowid rows row rising found

pub side_bytes-without : (rowid : ℤ) (rows : List Row) (row : Row) → is_rising rows ≡ true → find (λ r. int_eq r.rowid rowid) rows ≡ Some row →
    row_side_bytes row + rows_side_bytes (without rowid rows) ≡ rows_side_bytes rows
side_bytes-without rowid rows row rising found = sum-without row_side_bytes rowid rows row rising found

-- ---- within 64 bits

-- a value has no more bytes than a vector or a text may have
pub record IsSmall (value : Value) : Type 0 where
  pub vector : vector_bytes value ≤ MOST_DIMENSIONS
  pub side : side_bytes value ≤ MOST_VALUE_BYTES

null_small : (value : Value) → is_null value ≡ true → IsSmall value
null_small Null h = record { vector = omega arith; side = omega arith }
null_small (Int n) h = absurd cc
null_small (Text text) h = absurd cc
null_small (Blob bytes) h = absurd cc
null_small (Int8 vector) h = absurd cc
null_small (Bits vector) h = absurd cc

number_small : (rowid : ℤ) (value : Value) → is_number rowid value ≡ true → IsSmall value
number_small rowid (Int n) h = record { vector = omega arith; side = omega arith }
number_small rowid Null h = absurd cc
number_small rowid (Text text) h = absurd cc
number_small rowid (Blob bytes) h = absurd cc
number_small rowid (Int8 vector) h = absurd cc
number_small rowid (Bits vector) h = absurd cc

-- a vector has a dimension or more for each byte
bytes_most : (value : Value) → vector_bytes value ≤ dimensions value
bytes_most Null = omega arith
bytes_most (Int n) = omega arith
bytes_most (Text text) = omega arith
bytes_most (Blob bytes) = omega arith
bytes_most (Int8 vector) = omega arith
bytes_most (Bits vector) = omega arith

width_most : (kind : Kind) → is_misfit_int8 kind ≡ false → is_misfit_bits kind ≡ false → width_of kind ≤ MOST_DIMENSIONS
width_most (Int8Vector width metric) int8 bits =
    leb-true width MOST_DIMENSIONS (and_parts (nat_le 1 width) (nat_le width MOST_DIMENSIONS) (not_false (nat_le 1 width && nat_le width MOST_DIMENSIONS) int8)).1
width_most (BitVector width) int8 bits =
    leb-true width MOST_DIMENSIONS (and_parts (width % 8 == 0 && nat_le 8 width) (nat_le width MOST_DIMENSIONS) (not_false (width % 8 == 0 && nat_le 8 width && nat_le width MOST_DIMENSIONS) bits)).1
width_most IntKey int8 bits = omega arith
width_most TextKey int8 bits = omega arith
width_most IntPartition int8 bits = omega arith
width_most TextPartition int8 bits = omega arith
width_most IntMeta int8 bits = omega arith
width_most TextMeta int8 bits = omega arith
width_most BoolMeta int8 bits = omega arith
width_most IntAux int8 bits = omega arith
width_most TextAux int8 bits = omega arith
width_most BlobAux int8 bits = omega arith

fitting_small : (kind : Kind) (value : Value) → width_of kind ≤ MOST_DIMENSIONS → is_fitting kind value ≡ true → IsSmall value
fitting_small kind value narrow fits =
    let parts = and_parts (is_of_kind kind value) (is_shaped kind value && nat_le (side_bytes value) MOST_VALUE_BYTES) fits in
    let more = and_parts (is_shaped kind value) (nat_le (side_bytes value) MOST_VALUE_BYTES) parts.1 in
    let wide = eqb-true (width_of kind) (dimensions value) (by_type (is_of_kind kind value) (width_of kind == dimensions value) parts.0 more.0) in
    let most = bytes_most value in
    record { vector = omega (arith, narrow, wide, most); side = leb-true (side_bytes value) MOST_VALUE_BYTES more.1 }
  where
    by_type : (a b : Bool) → a ≡ true → (not a || b) ≡ true → b ≡ true
    by_type true b e g = g
    by_type false b e g = absurd cc

plainly_small : (kind : Kind) (value : Value) → width_of kind ≤ MOST_DIMENSIONS → is_plainly_valid kind value ≡ true → IsSmall value
plainly_small kind value narrow valid =
    elim (is_null value) as (λ b. is_null value ≡ b → (if b then is_auxiliary kind else is_fitting kind value) ≡ true → IsSmall value)
    [ true ↦ λ e h. null_small value e | false ↦ λ e h. fitting_small kind value narrow h ] refl valid

valid_small : (kind : Kind) (rowid : ℤ) (value : Value) → width_of kind ≤ MOST_DIMENSIONS → is_valid_value kind rowid value ≡ true → IsSmall value
valid_small IntKey rowid value narrow valid = number_small rowid value valid
valid_small TextKey rowid value narrow valid = plainly_small TextKey value narrow valid
valid_small (Int8Vector width metric) rowid value narrow valid = plainly_small (Int8Vector width metric) value narrow valid
valid_small (BitVector width) rowid value narrow valid = plainly_small (BitVector width) value narrow valid
valid_small IntPartition rowid value narrow valid = plainly_small IntPartition value narrow valid
valid_small TextPartition rowid value narrow valid = plainly_small TextPartition value narrow valid
valid_small IntMeta rowid value narrow valid = plainly_small IntMeta value narrow valid
valid_small TextMeta rowid value narrow valid = plainly_small TextMeta value narrow valid
valid_small BoolMeta rowid value narrow valid = plainly_small BoolMeta value narrow valid
valid_small IntAux rowid value narrow valid = plainly_small IntAux value narrow valid
valid_small TextAux rowid value narrow valid = plainly_small TextAux value narrow valid
valid_small BlobAux rowid value narrow valid = plainly_small BlobAux value narrow valid

values_small : (columns : List Column) (rowid : ℤ) (values : List Value) → has_some is_misfit_int8 columns ≡ false → has_some is_misfit_bits columns ≡ false →
    are_valid_values columns rowid values ≡ true →
    (sum_by vector_bytes values ≤ length columns * MOST_DIMENSIONS) × (sum_by side_bytes values ≤ length columns * MOST_VALUE_BYTES)
values_small [] rowid [] int8 bits valid = (omega arith, omega arith)
values_small [] rowid (value ∷ values) int8 bits valid = absurd cc
values_small (column ∷ columns) rowid [] int8 bits valid = absurd cc
values_small (column ∷ columns) rowid (value ∷ values) int8 bits valid =
    let parts = and_parts (is_valid_value column.kind rowid value) (are_valid_values columns rowid values) valid in
    let narrow = width_most column.kind (or_first (is_misfit_int8 column.kind) (has_some is_misfit_int8 columns) int8) (or_first (is_misfit_bits column.kind) (has_some is_misfit_bits columns) bits) in
    let one = valid_small column.kind rowid value narrow parts.0 in
    let rest = values_small columns rowid values (or_second (is_misfit_int8 column.kind) (has_some is_misfit_int8 columns) int8)
    (or_second (is_misfit_bits column.kind) (has_some is_misfit_bits columns) bits) parts.1 in
    let vectors = sum_by-cons vector_bytes value values in
    let sides = sum_by-cons side_bytes value values in
    (omega (arith, vectors, one.vector, rest.0), omega (arith, sides, one.side, rest.1))

-- a valid row has no more bytes than all its columns may have
pub row-bytes : (schema : Schema) (row : Row) → IsValidSchema schema → is_valid_row schema.columns row ≡ true →
    (row_vector_bytes row ≤ MOST_COLUMNS * MOST_DIMENSIONS) × (row_side_bytes row ≤ MOST_COLUMNS * MOST_VALUE_BYTES)
row-bytes schema row valid fits =
    let rules = faultless schema valid.rules in
    let few = few_columns schema valid in
    let small = values_small schema.columns row.rowid row.values rules.int8 rules.bits fits in
    (omega (arith, few, small.0), omega (arith, few, small.1))

rows_small : (f : Row → ℕ) (most : ℕ) (such : Row → Bool) (rows : List Row) → ((row : Row) → such row ≡ true → f row ≤ most) → list_all such rows ≡ true → sum_by f rows ≤ length rows * most
rows_small f most such [] small all = omega arith
rows_small f most such (r ∷ rs) small all =
    let parts = and_parts (such r) (list_all such rs) all in
    let one = small r parts.0 in
    let rest = rows_small f most such rs small parts.1 in
    let whole = sum_by-cons f r rs in
    omega (arith, one, rest, whole)

-- the bytes of all vectors of a valid table fit 64 bits
pub vector_bytes-fit : (table : Table) → IsValidTable table → rows_vector_bytes table.rows < 2 ^ 64
vector_bytes-fit table valid =
    let few = leb-true (length table.rows) MOST_ROWS valid.few in
    let small = rows_small row_vector_bytes (MOST_COLUMNS * MOST_DIMENSIONS) (is_valid_row table.schema.columns) table.rows (λ row fits. (row-bytes table.schema row valid.schema fits).0) valid.values in
    omega (arith, few, small)

-- and those of all texts and blobs
pub side_bytes-fit : (table : Table) → IsValidTable table → rows_side_bytes table.rows < 2 ^ 64
side_bytes-fit table valid =
    let few = leb-true (length table.rows) MOST_ROWS valid.few in
    let small = rows_small row_side_bytes (MOST_COLUMNS * MOST_VALUE_BYTES) (is_valid_row table.schema.columns) table.rows (λ row fits. (row-bytes table.schema row valid.schema fits).1) valid.values in
    omega (arith, few, small)

all_small : (columns : List Column) (rowid : ℤ) (values : List Value) → has_some is_misfit_int8 columns ≡ false → has_some is_misfit_bits columns ≡ false →
    are_valid_values columns rowid values ≡ true → AllByRecursion IsSmall values
all_small [] rowid [] int8 bits valid = tt
all_small [] rowid (value ∷ values) int8 bits valid = absurd cc
all_small (column ∷ columns) rowid [] int8 bits valid = absurd cc
all_small (column ∷ columns) rowid (value ∷ values) int8 bits valid =
    let parts = and_parts (is_valid_value column.kind rowid value) (are_valid_values columns rowid values) valid in
    let narrow = width_most column.kind (or_first (is_misfit_int8 column.kind) (has_some is_misfit_int8 columns) int8) (or_first (is_misfit_bits column.kind) (has_some is_misfit_bits columns) bits) in (
      valid_small column.kind rowid value narrow parts.0,
      all_small columns rowid values (or_second (is_misfit_int8 column.kind) (has_some is_misfit_int8 columns) int8) (or_second (is_misfit_bits column.kind) (has_some is_misfit_bits columns) bits) parts.1,
    )

-- each value of a valid row is small
pub values-small : (schema : Schema) (rowid : ℤ) (values : List Value) → IsValidSchema schema → are_valid_values schema.columns rowid values ≡ true → AllByRecursion IsSmall values
values-small schema rowid values valid fits = let rules = faultless schema valid.rules in all_small schema.columns rowid values rules.int8 rules.bits fits

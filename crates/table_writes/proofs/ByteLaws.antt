-- How many bytes of texts and blobs rows have after an UPDATE: those before, without what goes, and with what comes.
use Rattle.std.proofs.Common.{◌≡◌, ℕ, zero, suc, ℤ, ◌+◌, ◌*◌, ◌-◌, ◌≤◌, ◌<◌, Bool, true, false, cond, List, [], ◌∷◌, ◌∙◌, refl, sym, ap, ap₂, subst, arith, length, length-set}
use Rattle.std.specs.Prelude.{slice_index_or, slice_set, sum_by, if◌then◌else◌}
use Rattle.std.specs.List.{list_all, AllByRecursion}
use Rattle.std.proofs.lemmas.Bool.{and_parts}
use Rattle.std.proofs.lemmas.List.Sums.{sum_by-cons}
use Rattle.vec_base.specs.declared.value.Value.{Value}
use Rattle.vec_base.specs.declared.value.Value.TheVariants.{Null, Int, Text, Blob, Int8, Bits}
use Rattle.row_model.specs.Change.{put_at, rows_side_bytes, set_all, updated}
use Rattle.row_model.specs.ColumnNames.{place_of}
use Rattle.row_model.specs.Schemas.{is_vector}
use Rattle.row_model.specs.Valid.{are_valid_values, is_fitting, is_valid_row, is_valid_value}
use Rattle.row_model.specs.Values.{is_null, is_of_kind, meets_all, met, row_side_bytes, side_bytes}
use Rattle.row_model.specs.declared.row.Row.{Row}
use Rattle.row_model.specs.declared.schema.Column.{Column}
use Rattle.row_model.specs.declared.schema.Kind.{Kind}
use Rattle.row_model.specs.declared.schema.Kind.TheVariants.{IntKey, TextKey, Int8Vector, BitVector, IntPartition, TextPartition, IntMeta, TextMeta, BoolMeta, IntAux, TextAux, BlobAux}
use Rattle.row_model.specs.declared.schema.Place.{Place}
use Rattle.row_model.specs.declared.statement.Assign.{Assign}
use Rattle.row_model.specs.declared.statement.Update.{Update}
use Rattle.row_model.proofs.SchemaLaws.{declared_value, place_declared}
use Rattle.table_writes.specs.inner.NewValues.{bytes_come, bytes_gone, bytes_in, declared_number}
use Rattle.table_writes.proofs.SetLaws.{AreApart, IsChange, index_of}

-- ---- one value

sum_put : (f : Value → ℕ) (values : List Value) (i : ℕ) (value : Value) → i < length values → sum_by f (slice_set values i value) + f (slice_index_or values i Null) ≡ sum_by f values + f value
sum_put f [] i value low = absurd (omega (arith, low))
sum_put f (v ∷ vs) zero value low =
    let old = sum_by-cons f v vs in
    let new = sum_by-cons f value vs in
    omega (arith, old, new)
sum_put f (v ∷ vs) (suc i) value low =
    let old = sum_by-cons f v vs in
    let new = sum_by-cons f v (slice_set vs i value) in
    let rest = sum_put f vs i value (omega (arith, low)) in
    omega (arith, old, new, rest)

get_other : (values : List Value) (i j : ℕ) (value : Value) → (i ≡ j → ⊥) → slice_index_or (slice_set values i value) j Null ≡ slice_index_or values j Null
get_other [] i j value other = refl
get_other (v ∷ vs) zero zero value other = absurd (other refl)
get_other (v ∷ vs) zero (suc j) value other = refl
get_other (v ∷ vs) (suc i) zero value other = refl
get_other (v ∷ vs) (suc i) (suc j) value other = get_other vs i j value (λ e. other (ap suc e))

-- ---- the values of a row

-- the value in the column that is set
abbrev value_for : List Column → List Value → Assign → Value
value_for columns values set = slice_index_or values (index_of columns set) Null

-- a set puts its value at its index
put_is : (columns : List Column) (set : Assign) (values : List Value) → IsChange columns set → put_at (place_of columns set.column) set.value values ≡ slice_set values (index_of columns set) set.value
put_is columns set values is =
    ap (λ (p : Place). put_at p set.value values) is.at ∙ sym (ap (λ (p : Place). slice_set values (declared_number p - 1) set.value) is.at)

-- all columns that are set are there
abbrev AreWithin : List Column → ℕ → List Assign → Type 0
AreWithin columns n sets = AllByRecursion (λ (set : Assign). index_of columns set < n) sets

-- the values in the columns of these sets are the same
abbrev AreSame : List Column → List Value → List Value → List Assign → Type 0
AreSame columns values base sets = AllByRecursion (λ (set : Assign). value_for columns values set ≡ value_for columns base set) sets

same_after : (columns : List Column) (set : Assign) (value : Value) (sets : List Assign) (values base : List Value) →
    AllByRecursion (λ (later : Assign). index_of columns set ≡ index_of columns later → ⊥) sets → AreSame columns values base sets → AreSame columns (slice_set values (index_of columns set) value) base sets
same_after columns set value [] values base apart same = tt
same_after columns set value (later ∷ sets) values base apart same = (
  get_other values (index_of columns set) (index_of columns later) value apart.0 ∙ same.0,
  same_after columns set value sets values base apart.1 same.1,
)

same_all : (columns : List Column) (values : List Value) (sets : List Assign) → AreSame columns values values sets
same_all columns values [] = tt
same_all columns values (set ∷ sets) = (refl, same_all columns values sets)

within_after : (columns : List Column) (n m : ℕ) (sets : List Assign) → n ≡ m → AreWithin columns n sets → AreWithin columns m sets
within_after columns n m sets same all = subst (λ (k : ℕ). AreWithin columns k sets) same all

-- what comes and what goes, one value after another
sum_sets : (f : Value → ℕ) (columns : List Column) (sets : List Assign) (values base : List Value) → AllByRecursion (IsChange columns) sets → AreApart columns sets →
    AreWithin columns (length values) sets → AreSame columns values base sets →
    sum_by f (set_all columns sets values) + sum_by (λ (set : Assign). f (value_for columns base set)) sets ≡ sum_by f values + sum_by (λ (set : Assign). f set.value) sets
sum_sets f columns [] values base changes apart within same = refl
sum_sets f columns (set ∷ sets) values base changes apart within same =
    let i = index_of columns set in
    let next = slice_set values i set.value in
    let g = λ (s : Assign). f (value_for columns base s) in
    let h = λ (s : Assign). f s.value in
    let put = ap (λ (vs : List Value). sum_by f (set_all columns sets vs)) (put_is columns set values changes.0) in
    let one = sum_put f values i set.value within.0 in
    let rest = sum_sets f columns sets next base changes.1 apart.1 (within_after columns (length values) (length next) sets (sym (length-set values i set.value)) within.1)
    (same_after columns set set.value sets values base apart.0 same.1) in
    let gone = sum_by-cons g set sets in
    let come = sum_by-cons h set sets in
    let here = ap f same.0 in
    omega (arith, put, one, rest, gone, come, here)

-- what goes was there
gone_most : (f : Value → ℕ) → f Null ≡ 0 → (columns : List Column) (sets : List Assign) (values base : List Value) → AreApart columns sets →
    AreWithin columns (length values) sets → AreSame columns values base sets → sum_by (λ (set : Assign). f (value_for columns base set)) sets ≤ sum_by f values
gone_most f none columns [] values base apart within same = omega arith
gone_most f none columns (set ∷ sets) values base apart within same =
    let i = index_of columns set in
    let next = slice_set values i Null in
    let one = sum_put f values i Null within.0 in
    let rest = gone_most f none columns sets next base apart.1 (within_after columns (length values) (length next) sets (sym (length-set values i Null)) within.1)
    (same_after columns set Null sets values base apart.0 same.1) in
    let gone = sum_by-cons (λ (s : Assign). f (value_for columns base s)) set sets in
    let here = ap f same.0 in
    omega (arith, none, one, rest, gone, here)

-- ---- the bytes of texts and blobs of a row

int8_none : (value : Value) (width : ℕ) → (metric : _) → is_of_kind (Int8Vector width metric) value ≡ true → side_bytes value ≡ 0
int8_none Null width metric h = refl
int8_none (Int n) width metric h = refl
int8_none (Text text) width metric h = absurd cc
int8_none (Blob bytes) width metric h = absurd cc
int8_none (Int8 vector) width metric h = refl
int8_none (Bits vector) width metric h = refl

bits_none : (value : Value) (width : ℕ) → is_of_kind (BitVector width) value ≡ true → side_bytes value ≡ 0
bits_none Null width h = refl
bits_none (Int n) width h = refl
bits_none (Text text) width h = absurd cc
bits_none (Blob bytes) width h = absurd cc
bits_none (Int8 vector) width h = refl
bits_none (Bits vector) width h = refl

fits_where : (b : Bool) (fits : Bool) → (if b then false else fits) ≡ true → fits ≡ true
fits_where true fits h = absurd cc
fits_where false fits h = h

vector_none : (kind : Kind) (rowid : ℤ) (value : Value) → is_vector kind ≡ true → is_valid_value kind rowid value ≡ true → side_bytes value ≡ 0
vector_none (Int8Vector width metric) rowid value is valid =
    int8_none value width metric (and_parts (is_of_kind (Int8Vector width metric) value) _ (fits_where (is_null value) (is_fitting (Int8Vector width metric) value) valid)).0
vector_none (BitVector width) rowid value is valid = bits_none value width (and_parts (is_of_kind (BitVector width) value) _ (fits_where (is_null value) (is_fitting (BitVector width) value) valid)).0
vector_none IntKey rowid value is valid = absurd cc
vector_none TextKey rowid value is valid = absurd cc
vector_none IntPartition rowid value is valid = absurd cc
vector_none TextPartition rowid value is valid = absurd cc
vector_none IntMeta rowid value is valid = absurd cc
vector_none TextMeta rowid value is valid = absurd cc
vector_none BoolMeta rowid value is valid = absurd cc
vector_none IntAux rowid value is valid = absurd cc
vector_none TextAux rowid value is valid = absurd cc
vector_none BlobAux rowid value is valid = absurd cc

-- what is counted of a column is what its value has
bytes_of : (columns : List Column) (set : Assign) (row : Row) → IsChange columns set → is_valid_row columns row ≡ true → bytes_in (place_of columns set.column) row ≡ side_bytes (value_for columns row.values set)
bytes_of columns set row is valid =
    ap (λ (p : Place). bytes_in p row) is.at ∙ by_kind (is_vector is.kind) refl ∙ sym (ap (λ (p : Place). side_bytes (slice_index_or row.values (declared_number p - 1) Null)) is.at)
  where
    by_kind : (b : Bool) → is_vector is.kind ≡ b → (if b then 0 else side_bytes (slice_index_or row.values (is.number - 1) Null)) ≡ side_bytes (slice_index_or row.values (is.number - 1) Null)
    by_kind true e = sym (vector_none is.kind row.rowid (slice_index_or row.values (is.number - 1) Null) e
        (declared_value set.column 1 columns is.number is.kind row.rowid row.values (place_declared columns set.column is.number is.kind is.at) valid))
    by_kind false e = refl

gone_is : (columns : List Column) (sets : List Assign) (row : Row) → AllByRecursion (IsChange columns) sets → is_valid_row columns row ≡ true →
    bytes_gone columns sets row ≡ sum_by (λ (set : Assign). side_bytes (value_for columns row.values set)) sets
gone_is columns [] row changes valid = refl
gone_is columns (set ∷ sets) row changes valid =
    sum_by-cons (λ (s : Assign). bytes_in (place_of columns s.column) row) set sets
    ∙ ap₂ (λ (a b : ℕ). a + b) (bytes_of columns set row changes.0 valid) (gone_is columns sets row changes.1 valid)
    ∙ sym (sum_by-cons (λ (s : Assign). side_bytes (value_for columns row.values s)) set sets)

wide : (columns : List Column) (rowid : ℤ) (values : List Value) → are_valid_values columns rowid values ≡ true → length values ≡ length columns
wide [] rowid [] valid = refl
wide [] rowid (v ∷ vs) valid = absurd cc
wide (column ∷ columns) rowid [] valid = absurd cc
wide (column ∷ columns) rowid (v ∷ vs) valid = ap suc (wide columns rowid vs (and_parts _ _ valid).1)

-- a row that changes
pub row_after : (columns : List Column) (sets : List Assign) (row : Row) → AllByRecursion (IsChange columns) sets → AreApart columns sets → AllByRecursion (λ (set : Assign). index_of columns set < length columns) sets →
    is_valid_row columns row ≡ true →
    (sum_by side_bytes (set_all columns sets row.values) + bytes_gone columns sets row ≡ row_side_bytes row + bytes_come sets) × (bytes_gone columns sets row ≤ row_side_bytes row)
row_after columns sets row changes apart low valid =
    let there = within_after columns (length columns) (length row.values) sets (sym (wide columns row.rowid row.values valid)) low in
    let same = same_all columns row.values sets in
    let all = sum_sets side_bytes columns sets row.values row.values changes apart there same in
    let most = gone_most side_bytes refl columns sets row.values row.values apart there same in
    let counted = gone_is columns sets row changes valid in
    (omega (arith, all, counted), omega (arith, most, counted))

-- ---- all rows

none_taken : (n : ℕ) → 0 + 0 ≡ 0 + 0 * n
none_taken n = omega arith

one_more : (m n : ℕ) → suc m * n ≡ n + m * n
one_more m n = omega arith

pub record AreAfter (columns : List Column) (update : Update) (rows : List Row) : Type 0 where
  pub sum : rows_side_bytes (updated columns update rows) + sum_by (bytes_gone columns update.sets) (met columns update.where_terms rows) ≡ rows_side_bytes rows + length (met columns update.where_terms rows) * bytes_come update.sets
  pub most : sum_by (bytes_gone columns update.sets) (met columns update.where_terms rows) ≤ rows_side_bytes rows

pub rows_after : (columns : List Column) (update : Update) (rows : List Row) → AllByRecursion (IsChange columns) update.sets → AreApart columns update.sets →
    AllByRecursion (λ (set : Assign). index_of columns set < length columns) update.sets → list_all (is_valid_row columns) rows ≡ true → AreAfter columns update rows
rows_after columns update [] changes apart low valid = record { sum = none_taken (bytes_come update.sets); most = omega arith }
rows_after columns update (x ∷ xs) changes apart low valid =
    let parts = and_parts (is_valid_row columns x) (list_all (is_valid_row columns) xs) valid in
    let rest = rows_after columns update xs changes apart low parts.1 in
    let one = row_after columns update.sets x changes apart low parts.0 in
    by_test (meets_all columns update.where_terms x) refl rest.sum rest.most one.0 one.1
  where
    gone : Row → ℕ
    gone = bytes_gone columns update.sets

    by_test : (b : Bool) → meets_all columns update.where_terms x ≡ b →
        rows_side_bytes (updated columns update xs) + sum_by gone (met columns update.where_terms xs) ≡ rows_side_bytes xs + length (met columns update.where_terms xs) * bytes_come update.sets →
        sum_by gone (met columns update.where_terms xs) ≤ rows_side_bytes xs →
        sum_by side_bytes (set_all columns update.sets x.values) + gone x ≡ row_side_bytes x + bytes_come update.sets → gone x ≤ row_side_bytes x → AreAfter columns update (x ∷ xs)
    by_test true e sum most one less =
        let new : Row = record x { values = set_all columns update.sets x.values } in
        let after : rows_side_bytes (updated columns update (x ∷ xs)) ≡ row_side_bytes new + rows_side_bytes (updated columns update xs) =
        ap (λ b. rows_side_bytes ((if b then new else x) ∷ updated columns update xs)) e ∙ sum_by-cons row_side_bytes new (updated columns update xs) in
        let met_are : met columns update.where_terms (x ∷ xs) ≡ x ∷ met columns update.where_terms xs = ap (λ b. cond b (x ∷ met columns update.where_terms xs) (met columns update.where_terms xs)) e in
        let took = ap (sum_by gone) met_are ∙ sum_by-cons gone x (met columns update.where_terms xs) in
        let count = ap (λ (rows : List Row). length rows * bytes_come update.sets) met_are in
        let more : suc (length (met columns update.where_terms xs)) * bytes_come update.sets ≡ bytes_come update.sets + length (met columns update.where_terms xs) * bytes_come update.sets = one_more (length (met columns update.where_terms xs)) (bytes_come update.sets) in
        let old = sum_by-cons row_side_bytes x xs in
        record { sum = omega (arith, sum, one, after, took, count, more, old); most = omega (arith, most, less, took, old) }
    by_test false e sum most one less =
        let after : rows_side_bytes (updated columns update (x ∷ xs)) ≡ row_side_bytes x + rows_side_bytes (updated columns update xs) =
        ap (λ b. rows_side_bytes ((if b then record x { values = set_all columns update.sets x.values } else x) ∷ updated columns update xs)) e ∙ sum_by-cons row_side_bytes x (updated columns update xs) in
        let met_are : met columns update.where_terms (x ∷ xs) ≡ met columns update.where_terms xs = ap (λ b. cond b (x ∷ met columns update.where_terms xs) (met columns update.where_terms xs)) e in
        let took = ap (sum_by gone) met_are in
        let count = ap (λ (rows : List Row). length rows * bytes_come update.sets) met_are in
        let old = sum_by-cons row_side_bytes x xs in
        record { sum = omega (arith, sum, after, took, count, old); most = omega (arith, most, took, old) }

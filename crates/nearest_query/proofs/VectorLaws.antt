-- The vector of a row at its number among the row's vectors, and what a plan's target says of it.
use Rattle.std.proofs.Common.{◌≡◌, ℕ, zero, suc, ℤ, ◌+◌, ◌-◌, ◌≤◌, ◌<◌, Bool, true, false, cond, List, [], ◌∷◌, length, get_or, take, refl, sym, ap, ◌∙◌, arith, subst, Some, None, Option}
use Rattle.std.specs.Prelude.{slice_index_or}
use Rattle.std.specs.List.{cons_option, list_all}
use Rattle.std.specs.Option.{option_map}
use Rattle.std.proofs.lemmas.Bool.{and_parts}
use Rattle.std.proofs.lemmas.List.Sums.{sum_by-cons}
use Rattle.vec_base.specs.declared.limits.TheConstants.{MOST_REPLY_ROWS}
use Rattle.vec_base.specs.declared.value.Value.{Value}
use Rattle.vec_base.specs.declared.value.Value.TheVariants.{Null, Int, Text, Blob, Int8, Bits}
use Rattle.chunk_slots.specs.Slots.{vector_of, vectors_of}
use Rattle.row_model.specs.Answer.{Target, or_later, target_in, target_of, vector_of as bytes_of}
use Rattle.row_model.specs.ColumnNames.{is_of, place_of}
use Rattle.row_model.specs.Schemas.{count_of, has_role, is_same_role, is_vector, role_of}
use Rattle.row_model.specs.Valid.{are_valid_values, is_valid_row, is_valid_value}
use Rattle.row_model.specs.Values.{value_at}
use Rattle.row_model.specs.declared.schema.Column.{Column}
use Rattle.row_model.specs.declared.schema.Kind.{Kind}
use Rattle.row_model.specs.declared.schema.Kind.TheVariants.{IntKey, TextKey, Int8Vector, BitVector, IntPartition, TextPartition, IntMeta, TextMeta, BoolMeta, IntAux, TextAux, BlobAux}
use Rattle.row_model.specs.declared.schema.Place.{Place}
use Rattle.row_model.specs.declared.schema.Place.TheVariants.{Unknown, Rowid, Declared, Count, Distance}
use Rattle.row_model.specs.declared.schema.Role.{Role}
use Rattle.row_model.specs.declared.schema.Role.TheVariants.{Key, Vector, Partition, Metadata, Auxiliary}
use Rattle.row_model.specs.declared.statement.Constraint.{Constraint}
use Rattle.row_model.specs.declared.statement.Test.{Test}
use Rattle.row_model.specs.declared.statement.Test.TheVariants.{Compare, Member, Match}
use Rattle.row_model.specs.inner.ComparableVectors.{IsComparable}
use Rattle.row_model.proofs.SelectLaws.{comparable_rows, few_wanted}
use Rattle.knn_plan.specs.PlannedColumns.{named_column, number_among}
use Rattle.knn_plan.specs.Plans.{Planned, PlannedTarget, planned_target}
use Rattle.knn_plan.proofs.NumberLaws.{values_of, column_there, role_shows}
use Rattle.shadow_records.specs.PlacedTables.{PlacedRow, PlacedTable, plain, plain_rows, row_at}
use Rattle.table_version.specs.Kept.{widths_of}
use Rattle.table_version.proofs.SettingLaws.{vector_in}
use Rattle.table_version.proofs.WeavingLaws.{one_if, one_width}
use Rattle.nearest_query.specs.inner.Scanning.{IsReady}
use Rattle.nearest_query.proofs.PlaceLaws.{all_there, row_there}

-- ---- values of vector columns

no_int8 : (kind : Kind) (rowid : ℤ) (vector : List ℕ) → is_vector kind ≡ false → is_valid_value kind rowid (Int8 vector) ≡ true → ⊥
no_int8 IntKey rowid vector is valid = absurd cc
no_int8 TextKey rowid vector is valid = absurd cc
no_int8 (Int8Vector width metric) rowid vector is valid = absurd cc
no_int8 (BitVector width) rowid vector is valid = absurd cc
no_int8 IntPartition rowid vector is valid = absurd cc
no_int8 TextPartition rowid vector is valid = absurd cc
no_int8 IntMeta rowid vector is valid = absurd cc
no_int8 TextMeta rowid vector is valid = absurd cc
no_int8 BoolMeta rowid vector is valid = absurd cc
no_int8 IntAux rowid vector is valid = absurd cc
no_int8 TextAux rowid vector is valid = absurd cc
no_int8 BlobAux rowid vector is valid = absurd cc

no_bits : (kind : Kind) (rowid : ℤ) (vector : List ℕ) → is_vector kind ≡ false → is_valid_value kind rowid (Bits vector) ≡ true → ⊥
no_bits IntKey rowid vector is valid = absurd cc
no_bits TextKey rowid vector is valid = absurd cc
no_bits (Int8Vector width metric) rowid vector is valid = absurd cc
no_bits (BitVector width) rowid vector is valid = absurd cc
no_bits IntPartition rowid vector is valid = absurd cc
no_bits TextPartition rowid vector is valid = absurd cc
no_bits IntMeta rowid vector is valid = absurd cc
no_bits TextMeta rowid vector is valid = absurd cc
no_bits BoolMeta rowid vector is valid = absurd cc
no_bits IntAux rowid vector is valid = absurd cc
no_bits TextAux rowid vector is valid = absurd cc
no_bits BlobAux rowid vector is valid = absurd cc

-- no other valid value is a vector
other_value : (kind : Kind) (rowid : ℤ) (value : Value) → is_vector kind ≡ false → is_valid_value kind rowid value ≡ true → vector_of value ≡ None
other_value kind rowid Null is valid = refl
other_value kind rowid (Int n) is valid = refl
other_value kind rowid (Text text) is valid = refl
other_value kind rowid (Blob bytes) is valid = refl
other_value kind rowid (Int8 vector) is valid = absurd (no_int8 kind rowid vector is valid)
other_value kind rowid (Bits vector) is valid = absurd (no_bits kind rowid vector is valid)

same_bytes : (value : Value) (vector : List ℕ) → vector_of value ≡ Some vector → vector ≡ bytes_of value
same_bytes Null vector is = absurd cc
same_bytes (Int n) vector is = absurd cc
same_bytes (Text text) vector is = absurd cc
same_bytes (Blob bytes) vector is = absurd cc
same_bytes (Int8 bytes) vector is = cc
same_bytes (Bits bytes) vector is = cc

picked : (o : Option (List ℕ)) (b : Bool) (bytes : List ℕ) (xs : List (List ℕ)) → (b ≡ true → o ≡ Some bytes) → (b ≡ false → o ≡ None) → cons_option o xs ≡ cond b (bytes ∷ xs) xs
picked o true bytes xs some none = ap (λ (p : Option (List ℕ)). cons_option p xs) (some refl)
picked o false bytes xs some none = ap (λ (p : Option (List ℕ)). cons_option p xs) (none refl)

-- the vectors among the values of a valid row are those in the columns of vectors
pub vectors_shown : (columns : List Column) (rowid : ℤ) (values : List Value) → are_valid_values columns rowid values ≡ true → vectors_of values ≡ values_of (has_role Vector) bytes_of columns values
vectors_shown [] rowid [] valid = refl
vectors_shown [] rowid (value ∷ values) valid = absurd cc
vectors_shown (column ∷ columns) rowid [] valid = absurd cc
vectors_shown (column ∷ columns) rowid (value ∷ values) valid =
    let parts = and_parts (is_valid_value column.kind rowid value) (are_valid_values columns rowid values) valid in
    picked (vector_of value) (has_role Vector column.kind) (bytes_of value) (vectors_of values)
    (λ is. let vector = vector_in column.kind rowid value is parts.0 in vector.1 ∙ ap (λ (v : List ℕ). Some v) (same_bytes value vector.0 vector.1))
    (λ is. other_value column.kind rowid value is parts.0)
    ∙ ap (λ (xs : List (List ℕ)). cond (has_role Vector column.kind) (bytes_of value ∷ xs) xs) (vectors_shown columns rowid values parts.1)

-- one value for each column
valid_wide : (columns : List Column) (rowid : ℤ) (values : List Value) → are_valid_values columns rowid values ≡ true → length values ≡ length columns
valid_wide [] rowid [] valid = refl
valid_wide [] rowid (value ∷ values) valid = absurd cc
valid_wide (column ∷ columns) rowid [] valid = absurd cc
valid_wide (column ∷ columns) rowid (value ∷ values) valid = ap suc (valid_wide columns rowid values (and_parts (is_valid_value column.kind rowid value) (are_valid_values columns rowid values) valid).1)

pub row_wide : (columns : List Column) (rows : List PlacedRow) (c s : ℕ) (p : PlacedRow) → list_all (is_valid_row columns) (plain_rows rows) ≡ true → row_at rows c s ≡ Some p → length p.row.values ≡ length columns
row_wide columns rows c s p valid is = valid_wide columns p.row.rowid p.row.values (all_there (is_valid_row columns) rows c s p valid is)

-- ---- the widths of vector columns

count_first : (column : Column) (columns : List Column) → count_of (has_role Vector) (column ∷ columns) ≡ one_if (has_role Vector column.kind) + count_of (has_role Vector) columns
count_first column columns = sum_by-cons (λ (c : Column). one_if (has_role Vector c.kind)) column columns

one_there : (b : Bool) → b ≡ true → one_if b ≡ 1
one_there true is = refl
one_there false is = absurd cc

-- there is one for the column at a place beside those before it
width_there : (columns : List Column) (j : ℕ) (d : Column) → j < length columns → has_role Vector (get_or columns j d).kind ≡ true → count_of (has_role Vector) (take j columns) < length (widths_of columns)
width_there [] j d within is = absurd (omega arith)
width_there (column ∷ columns) zero d within is =
    let wide = one_width column.kind (widths_of columns) in
    let one = one_there (has_role Vector column.kind) is in
    omega (arith, wide, one)
width_there (column ∷ columns) (suc j) d within is =
    let wide = one_width column.kind (widths_of columns) in
    let step = count_first column (take j columns) in
    let rest = width_there columns j d (omega arith) is in
    omega (arith, wide, step, rest)

-- ---- the target

record IsNamed (columns : List Column) (place : Place) : Type 0 where
  name : List ℕ
  is : place ≡ place_of columns name

named_first : (columns : List Column) (name : List ℕ) (test : Test) (rest : Option Target) (t : Target) → or_later (target_in (place_of columns name) test) rest ≡ Some t → (rest ≡ Some t → IsNamed columns t.place) → IsNamed columns t.place
named_first columns name (Compare op value) rest t is later = later is
named_first columns name (Member values) rest t is later = later is
named_first columns name (Match query) rest t is later =
    let same : record { place = place_of columns name; query = query } ≡ t = cc in
    record { name = name; is = sym (ap (λ (u : Target). u.place) same) }

target_named : (columns : List Column) (terms : List Constraint) (t : Target) → target_of columns terms ≡ Some t → IsNamed columns t.place
target_named columns [] t is = absurd cc
target_named columns (term ∷ terms) t is = named_first columns term.column term.test (target_of columns terms) t is (λ later. target_named columns terms t later)

-- what is looked for, and what the plan says of it
pub record IsTargetOf (table : PlacedTable) (plan : Planned) (target : PlannedTarget) : Type 0 where
  pub sought : Target
  pub found : target_of table.schema.columns plan.select.where_terms ≡ Some sought
  pub is : planned_target table.schema.columns sought ≡ target

planned_there : (columns : List Column) (o : Option Target) (target : PlannedTarget) → option_map (planned_target columns) o ≡ Some target → (t : Target) × ((o ≡ Some t) × (planned_target columns t ≡ target))
planned_there columns None target is = absurd cc
planned_there columns (Some t) target is = let same : planned_target columns t ≡ target = cc in (t, (refl, same))

pub target_there : (table : PlacedTable) (plan : Planned) (target : PlannedTarget) → IsReady table plan target → IsTargetOf table plan target
target_there table plan target ready =
    let there = planned_there table.schema.columns (target_of table.schema.columns plan.select.where_terms) target (sym ready.plan_for.target ∙ ready.target_is) in
    record { sought = there.0; found = there.1.0; is = there.1.1 }

-- the vector that a slot has of its row is the one in the target's column
pub vector_read : (table : PlacedTable) (plan : Planned) (target : PlannedTarget) → IsReady table plan target → (c s : ℕ) (p : PlacedRow) → row_at table.rows c s ≡ Some p →
    slice_index_or (vectors_of p.row.values) target.column.number [] ≡ bytes_of (value_at target.column.place p.row)
vector_read table plan target ready c s p there =
    let columns = table.schema.columns in
    let of = target_there table plan target ready in
    let name = target_named columns plan.select.where_terms of.sought of.found in
    let valid = all_there (is_valid_row columns) table.rows c s p ready.placed.valid.values there in
    let comparable = row_there (IsComparable of.sought) table.rows c s p (comparable_rows (plain table) plan.select ready.placed.valid ready.plan_for.checked of.sought of.found) there in
    let wide = valid_wide columns p.row.rowid p.row.values valid in
    let is : is_of (has_role Vector) (place_of columns name.name) ≡ true = ap (is_of (has_role Vector)) (sym name.is) ∙ comparable.column in
    let named : target ≡ record { column = named_column columns name.name; query = of.sought.query } = sym of.is ∙ ap (λ (q : Place). planned_target columns (record { place = q; query = of.sought.query })) name.is in
    ap (λ (t : PlannedTarget). slice_index_or (vectors_of p.row.values) t.column.number []) named
    ∙ ap (λ (vs : List (List ℕ)). slice_index_or vs (named_column columns name.name).number []) (vectors_shown columns p.row.rowid p.row.values valid)
    ∙ role_shows Vector bytes_of columns name.name p.row [] refl is wide
    ∙ sym (ap (λ (t : PlannedTarget). bytes_of (value_at t.column.place p.row)) named)

abbrev pub looked_for : PlannedTarget → Target
looked_for target = record { place = target.column.place; query = target.query }

-- each row has a distance from the target
pub comparable_at : (table : PlacedTable) (plan : Planned) (target : PlannedTarget) → IsReady table plan target → (c s : ℕ) (p : PlacedRow) → row_at table.rows c s ≡ Some p → IsComparable (looked_for target) p.row
comparable_at table plan target ready c s p there =
    let of = target_there table plan target ready in
    let P : PlannedTarget → Type 0 = λ t. IsComparable (looked_for t) p.row in
    subst P of.is (row_there (IsComparable of.sought) table.rows c s p (comparable_rows (plain table) plan.select ready.placed.valid ready.plan_for.checked of.sought of.found) there)

vector_role : (role : Role) → is_same_role role Vector ≡ true → role ≡ Vector
vector_role Key is = absurd cc
vector_role Vector is = refl
vector_role Partition is = absurd cc
vector_role Metadata is = absurd cc
vector_role Auxiliary is = absurd cc

low_of : (columns : List Column) (name : List ℕ) (place : Place) → place_of columns name ≡ place → is_of (has_role Vector) place ≡ true → number_among columns place < length (widths_of columns)
low_of columns name (Declared m kind) at is =
    let there = column_there columns name m kind at in
    let d : Column = record { name = []; kind = IntKey } in
    let low = width_there columns (m - 1) d there.1.within (ap (has_role Vector) (there.1.kind_is d) ∙ is) in
    subst (λ (r : Role). count_of (has_role r) (take (m - 1) columns) < length (widths_of columns)) (sym (vector_role (role_of kind) is)) low
low_of columns name Unknown at is = absurd cc
low_of columns name Rowid at is = absurd cc
low_of columns name Count at is = absurd cc
low_of columns name Distance at is = absurd cc

-- its column is one of those of a chunk
pub column_low : (table : PlacedTable) (plan : Planned) (target : PlannedTarget) → IsReady table plan target → (c s : ℕ) (p : PlacedRow) → row_at table.rows c s ≡ Some p → target.column.number < length (widths_of table.schema.columns)
column_low table plan target ready c s p there =
    let columns = table.schema.columns in
    let of = target_there table plan target ready in
    let name = target_named columns plan.select.where_terms of.sought of.found in
    let comparable = row_there (IsComparable of.sought) table.rows c s p (comparable_rows (plain table) plan.select ready.placed.valid ready.plan_for.checked of.sought of.found) there in
    let P : PlannedTarget → Type 0 = λ t. t.column.number < length (widths_of columns) in
    subst P of.is (low_of columns name.name of.sought.place (sym name.is) comparable.column)

-- no more rows are wanted than a reply has
pub few_hits : (table : PlacedTable) (plan : Planned) (target : PlannedTarget) → IsReady table plan target → plan.count ≤ MOST_REPLY_ROWS
few_hits table plan target ready =
    let of = target_there table plan target ready in
    let few = few_wanted table.schema.columns plan.select ready.plan_for.checked of.sought of.found in
    let same = ready.plan_for.count in
    omega (arith, few, same)

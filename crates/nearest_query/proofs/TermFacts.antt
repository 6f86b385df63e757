-- What each term of a plan asks of a chunk, of a row, and of its metadata.
use Rattle.std.proofs.Common.{◌≡◌, ℕ, zero, suc, ℤ, ◌+◌, ◌-◌, ◌≤◌, ◌<◌, Bool, true, false, not, cond, List, [], ◌∷◌, length, get_or, drop, map, refl, sym, ap, ◌∙◌, arith, subst, Some, Option, drop-cons, add-one}
use Rattle.std.specs.Prelude.{◌&&◌, ◌||◌, slice_index_or}
use Rattle.std.specs.List.{list_all, AllByRecursion, slice_get}
use Rattle.std.specs.Option.{option_map}
use Rattle.std.specs.Ordering.{int_eq}
use Rattle.std.proofs.lemmas.Bool.{and_parts}
use Rattle.std.proofs.lemmas.List.{get_or-map, length-map, drop_all}
use Rattle.std.proofs.lemmas.Int.{ints}
use Rattle.vec_base.specs.declared.value.Value.{Value}
use Rattle.vec_base.specs.declared.value.Value.TheVariants.{Null, Int}
use Rattle.row_chunks.specs.Cells.{can_filter, takes_test}
use Rattle.row_model.specs.ColumnNames.{is_count, is_distance, is_of, place_of}
use Rattle.row_model.specs.Groups.{kind_in}
use Rattle.row_model.specs.Check.{compares_vector, has_untaken_operator, is_match, matches_no_vector, test_values}
use Rattle.row_model.specs.Schemas.{has_role, is_metadata, is_partition, is_vector}
use Rattle.row_model.specs.Valid.{is_valid_row}
use Rattle.row_model.specs.Values.{is_of_type, meets, passes, value_at}
use Rattle.row_model.specs.declared.row.Row.{Row}
use Rattle.row_model.specs.declared.schema.Column.{Column}
use Rattle.row_model.specs.declared.schema.Kind.{Kind}
use Rattle.row_model.specs.declared.schema.Kind.TheVariants.{IntKey, TextKey, Int8Vector, BitVector, IntPartition, TextPartition, IntMeta, TextMeta, BoolMeta, IntAux, TextAux, BlobAux}
use Rattle.row_model.specs.declared.schema.Place.{Place}
use Rattle.row_model.specs.declared.schema.Place.TheVariants.{Unknown, Rowid, Declared, Count, Distance}
use Rattle.row_model.specs.declared.schema.Role.TheVariants.{Partition}
use Rattle.row_model.specs.declared.statement.Constraint.{Constraint}
use Rattle.row_model.specs.declared.statement.Test.{Test}
use Rattle.row_model.specs.declared.statement.Test.TheVariants.{Compare, Member, Match}
use Rattle.row_model.proofs.ShapeLaws.{nearest_with_target}
use Rattle.knn_plan.specs.Levels.{meets_on, meets_rest}
use Rattle.knn_plan.specs.PlannedColumns.{term_column}
use Rattle.knn_plan.specs.Plans.{Planned, PlannedTarget}
use Rattle.knn_plan.specs.TermUses.{is_on_chunks, is_on_rows, is_rowid}
use Rattle.knn_plan.specs.declared.column.PlannedColumn.{PlannedColumn}
use Rattle.knn_plan.proofs.LevelLaws.{rest_met}
use Rattle.knn_plan.proofs.NumberLaws.{values_of, column_there, IsColumnAt, role_shows}
use Rattle.knn_plan.proofs.RowidLaws.{rowid_value}
use Rattle.knn_plan.proofs.TermLaws.{IsTermFor, terms_fit}
use Rattle.shadow_records.specs.PlacedTables.{PlacedRow, PlacedTable, partition_of, plain_rows, row_at, row_of, value_in}
use Rattle.table_version.specs.Viewed.{column_value, is_vector_column, is_kind_of, kind_numbered}
use Rattle.nearest_query.specs.inner.Scanning.{IsReady}
use Rattle.nearest_query.proofs.PlaceLaws.{found_passes}
use Rattle.nearest_query.proofs.VectorLaws.{row_wide, target_there}

-- ---- the terms of a plan

pub all-step : {A : Type 0} (f : A → Bool) (xs : List A) (i : ℕ) (d : A) → i < length xs → f (get_or xs i d) ≡ true → list_all f (drop (i + 1) xs) ≡ list_all f (drop i xs)
all-step f xs i d less is = rw (drop-cons xs i d, is, add-one i) refl

pub all-fails : {A : Type 0} (f : A → Bool) (xs : List A) (i : ℕ) (d : A) → i < length xs → f (get_or xs i d) ≡ false → list_all f (drop i xs) ≡ false
all-fails f xs i d less fails = rw (drop-cons xs i d, fails) refl

pub each_at : {A : Type 0} (P : A → Type 0) (xs : List A) (i : ℕ) (d : A) → AllByRecursion P xs → i < length xs → P (get_or xs i d)
each_at P [] i d each within = absurd (omega arith)
each_at P (x ∷ xs) zero d each within = each.0
each_at P (x ∷ xs) (suc i) d each within = each_at P xs i d each.1 (omega arith)

pub terms_of : (table : PlacedTable) (plan : Planned) (target : PlannedTarget) → IsReady table plan target → AllByRecursion (IsTermFor table.schema.columns true) plan.select.where_terms
terms_of table plan target ready =
    let columns = table.schema.columns in
    let of = target_there table plan target ready in
    subst (λ (b : Bool). AllByRecursion (IsTermFor columns b) plan.select.where_terms) (nearest_with_target columns plan.select.where_terms of.sought of.found)
    (terms_fit columns plan.select ready.plan_for.checked)

pub columns_long : (columns : List Column) (terms : List Constraint) (planned : List PlannedColumn) → planned ≡ map (term_column columns) terms → length planned ≡ length terms
columns_long columns terms planned are = ap length are ∙ length-map terms (term_column columns)

pub column_of : (columns : List Column) (terms : List Constraint) (planned : List PlannedColumn) (i : ℕ) (d : PlannedColumn) (term : Constraint) → planned ≡ map (term_column columns) terms → i < length terms →
    term ≡ get_or terms i term → get_or planned i d ≡ term_column columns term
column_of columns terms planned i d term are within is =
    ap (λ (l : List PlannedColumn). get_or l i d) are ∙ get_or-map (term_column columns) terms i term d within ∙ ap (term_column columns) (sym is)

-- ---- terms on partition columns

partition_values : (columns : List Column) (values : List Value) → partition_of columns values ≡ values_of (has_role Partition) (λ v. v) columns values
partition_values [] values = refl
partition_values (column ∷ columns) [] = refl
partition_values (column ∷ columns) (value ∷ values) = ap (λ (l : List Value). cond (is_partition column.kind) (value ∷ l) l) (partition_values columns values)

no_count : (place : Place) → is_of is_partition place ≡ true → is_count place ≡ false
no_count Unknown is = refl
no_count Rowid is = refl
no_count (Declared n kind) is = refl
no_count Count is = absurd cc
no_count Distance is = refl

same_answer : (part b c : Bool) → (part ≡ true → b ≡ c) → (not part || b) ≡ (not part || c)
same_answer true b c same = same refl
same_answer false b c same = refl

-- what a partition value answers of a term is what the row answers
pub value_met : (table : PlacedTable) (term : Constraint) (column : PlannedColumn) (values : List Value) (c s : ℕ) (p : PlacedRow) → column ≡ term_column table.schema.columns term →
    list_all (is_valid_row table.schema.columns) (plain_rows table.rows) ≡ true → row_at table.rows c s ≡ Some p → values ≡ partition_of table.schema.columns p.row.values →
    (not (is_of is_partition column.place) || passes term.test (slice_index_or values column.number Null)) ≡ meets_on is_partition table.schema.columns p.row term
value_met table term column values c s p is valid there kept =
    let columns = table.schema.columns in
    let place = place_of columns term.column in
    let wide = row_wide columns table.rows c s p valid there in
    ap (λ (q : PlannedColumn). not (is_of is_partition q.place) || passes term.test (slice_index_or values q.number Null)) is
    ∙ same_answer (is_of is_partition place) (passes term.test (slice_index_or values (term_column columns term).number Null)) (meets columns p.row term)
    (λ part.
    ap (λ (l : List Value). passes term.test (slice_index_or l (term_column columns term).number Null)) (kept ∙ partition_values columns p.row.values)
    ∙ ap (passes term.test) (role_shows Partition (λ v. v) columns term.column p.row Null refl part wide)
    ∙ ap (λ b. b || passes term.test (value_at place p.row)) (sym (no_count place part)))

-- ---- terms on metadata

slice_get-there : {A : Type 0} (xs : List A) (i : ℕ) (d : A) → i < length xs → slice_get xs i ≡ Some (get_or xs i d)
slice_get-there [] i d within = absurd (omega arith)
slice_get-there (x ∷ xs) zero d within = refl
slice_get-there (x ∷ xs) (suc i) d within = slice_get-there xs i d (omega arith)

numbered_from : (columns : List Column) (m : ℕ) (kind : Kind) → 1 ≤ m → IsColumnAt columns (m - 1) kind → kind_numbered columns m ≡ Some kind
numbered_from columns zero kind some at = absurd (omega arith)
numbered_from columns (suc j) kind some at =
    let d : Column = record { name = []; kind = kind } in
    let same : suc j - 1 ≡ j = omega arith in
    ap (λ (n : ℕ). kind_in columns n) (sym same)
    ∙ ap (option_map (λ (c : Column). c.kind)) (slice_get-there columns (suc j - 1) d at.within)
    ∙ ap (λ (k : Kind). Some k) (at.kind_is d)

-- the kind of the column of a name
pub kind_named : (columns : List Column) (name : List ℕ) (m : ℕ) (kind : Kind) → place_of columns name ≡ Declared m kind → kind_numbered columns m ≡ Some kind
kind_named columns name m kind is = let there = column_there columns name m kind is in numbered_from columns m kind there.0 there.1

filter_taken : (m : ℕ) (kind : Kind) (test : Test) → is_metadata kind ≡ true → list_all (is_of_type (Declared m kind)) (test_values test) ≡ true → has_untaken_operator (Declared m kind) test ≡ false →
    matches_no_vector (Declared m kind) test ≡ false → can_filter kind test ≡ true
filter_taken m IntMeta (Compare op value) is typed taken matched = (and_parts _ _ typed).0
filter_taken m IntMeta (Member values) is typed taken matched = refl
filter_taken m IntMeta (Match query) is typed taken matched = absurd cc
filter_taken m TextMeta (Compare op value) is typed taken matched = (and_parts _ _ typed).0
filter_taken m TextMeta (Member values) is typed taken matched = refl
filter_taken m TextMeta (Match query) is typed taken matched = absurd cc
filter_taken m BoolMeta (Compare op value) is typed taken matched = (and_parts _ _ typed).0
filter_taken m BoolMeta (Member values) is typed taken matched = absurd cc
filter_taken m BoolMeta (Match query) is typed taken matched = absurd cc
filter_taken m IntKey test is typed taken matched = absurd cc
filter_taken m TextKey test is typed taken matched = absurd cc
filter_taken m (Int8Vector width metric) test is typed taken matched = absurd cc
filter_taken m (BitVector width) test is typed taken matched = absurd cc
filter_taken m IntPartition test is typed taken matched = absurd cc
filter_taken m TextPartition test is typed taken matched = absurd cc
filter_taken m IntAux test is typed taken matched = absurd cc
filter_taken m TextAux test is typed taken matched = absurd cc
filter_taken m BlobAux test is typed taken matched = absurd cc

-- a filter of the column of a term takes its test
pub test_taken : (columns : List Column) (term : Constraint) (m : ℕ) (kind : Kind) → IsTermFor columns true term → place_of columns term.column ≡ Declared m kind → is_metadata kind ≡ true →
    takes_test (kind_numbered columns m) term.test ≡ true
test_taken columns term m kind fits at is =
    ap (λ (o : Option Kind). takes_test o term.test) (kind_named columns term.column m kind at)
    ∙ filter_taken m kind term.test is
    (subst (λ (q : Place). list_all (is_of_type q) (test_values term.test) ≡ true) at fits.typed)
    (subst (λ (q : Place). has_untaken_operator q term.test ≡ false) at fits.operator)
    (subst (λ (q : Place). matches_no_vector q term.test ≡ false) at fits.matches)

metadata_value : (m : ℕ) (kind : Kind) (p : PlacedRow) → is_metadata kind ≡ true → value_in (m - 1) p ≡ value_at (Declared m kind) p.row
metadata_value m IntMeta p is = refl
metadata_value m TextMeta p is = refl
metadata_value m BoolMeta p is = refl
metadata_value m IntKey p is = absurd cc
metadata_value m TextKey p is = absurd cc
metadata_value m (Int8Vector width metric) p is = absurd cc
metadata_value m (BitVector width) p is = absurd cc
metadata_value m IntPartition p is = absurd cc
metadata_value m TextPartition p is = absurd cc
metadata_value m IntAux p is = absurd cc
metadata_value m TextAux p is = absurd cc
metadata_value m BlobAux p is = absurd cc

alone : (b c : Bool) → b ≡ true → c ≡ (not b || c)
alone true c is = refl
alone false c is = absurd cc

pub filtered_term : (columns : List Column) (term : Constraint) (m : ℕ) (kind : Kind) (p : PlacedRow) → place_of columns term.column ≡ Declared m kind → is_metadata kind ≡ true →
    passes term.test (value_in (m - 1) p) ≡ meets_on is_metadata columns p.row term
filtered_term columns term m kind p at is =
    ap (passes term.test) (metadata_value m kind p is)
    ∙ alone (is_metadata kind) (passes term.test (value_at (Declared m kind) p.row)) is
    ∙ ap (λ (q : Place). not (is_of is_metadata q) || (is_count q || passes term.test (value_at q p.row))) (sym at)

elsewhere : (b c : Bool) → b ≡ false → (not b || c) ≡ true
elsewhere false c is = refl
elsewhere true c is = absurd cc

pub other_term : (columns : List Column) (term : Constraint) (p : PlacedRow) → is_of is_metadata (place_of columns term.column) ≡ false → meets_on is_metadata columns p.row term ≡ true
other_term columns term p is = elsewhere (is_of is_metadata (place_of columns term.column)) (meets columns p.row term) is

-- ---- terms that are tested row by row

or_nothing : (b : Bool) → b ≡ (b || false)
or_nothing true = refl
or_nothing false = refl

pub met_elsewhere : (columns : List Column) (row : Row) (term : Constraint) → is_on_rows (place_of columns term.column) term.test ≡ false → meets_rest columns row term ≡ true
met_elsewhere columns row term none =
    (and_parts (meets_rest columns row term) true (rest_met columns row (term ∷ []) (sym (or_nothing (is_on_rows (place_of columns term.column) term.test)) ∙ none))).0

by_row : (matched count distance chunks passed : Bool) → not (matched || (count || (distance || chunks))) ≡ true → passed ≡ (chunks || (distance || (count || passed)))
by_row false false false false passed is = refl
by_row true count distance chunks passed is = absurd cc
by_row false true distance chunks passed is = absurd cc
by_row false false true chunks passed is = absurd cc
by_row false false false true passed is = absurd cc

pub met_by_row : (columns : List Column) (row : Row) (term : Constraint) → is_on_rows (place_of columns term.column) term.test ≡ true → passes term.test (value_at (place_of columns term.column) row) ≡ meets_rest columns row term
met_by_row columns row term is =
    let place = place_of columns term.column in
    by_row (is_match term.test) (is_count place) (is_distance place) (is_on_chunks place) (passes term.test (value_at place row)) is

no_vector : (vector matched other : Bool) → not (matched || other) ≡ true → (vector && not matched) ≡ false → vector ≡ false
no_vector false matched other is compared = refl
no_vector true true other is compared = absurd cc
no_vector true false other is compared = absurd cc

pub row_by_row : (place : Place) (test : Test) → is_on_rows place test ≡ true → compares_vector place test ≡ false → is_of is_vector place ≡ false
row_by_row place test is compared = no_vector (is_of is_vector place) (is_match test) (is_count place || (is_distance place || is_on_chunks place)) is compared

-- a column that is none of vectors
pub plain_column : (columns : List Column) (name : List ℕ) (m : ℕ) (kind : Kind) → place_of columns name ≡ Declared m kind → is_vector kind ≡ false → is_vector_column columns m ≡ false
plain_column columns name m kind at other = ap (is_kind_of is_vector) (kind_named columns name m kind at) ∙ other

-- the row of a rowid has it
pub own_rowid : (rows : List PlacedRow) (rowid : ℤ) (p : PlacedRow) → row_of rows rowid ≡ Some p → p.row.rowid ≡ rowid
own_rowid rows rowid p is = let same = found_passes (λ q. int_eq q.row.rowid rowid) rows p is in grind (arith, ints, same)

abbrev place_in : PlannedColumn → Place
place_in column = column.place

pub column_place : (columns : List Column) (term : Constraint) (column : PlannedColumn) → column ≡ term_column columns term → column.place ≡ place_of columns term.column
column_place columns term column is = ap place_in is

-- the rowid of the row is what stands at the place
pub rowid_met : (columns : List Column) (term : Constraint) (row : Row) (rowid : ℤ) (place : Place) → place ≡ place_of columns term.column → is_rowid place ≡ true → is_on_rows place term.test ≡ true → row.rowid ≡ rowid →
    passes term.test (Int rowid) ≡ meets_rest columns row term
rowid_met columns term row rowid place at is on same =
    ap (λ (n : ℤ). passes term.test (Int n)) (sym same)
    ∙ ap (passes term.test) (sym (rowid_value place row is) ∙ ap (λ (q : Place). value_at q row) at)
    ∙ met_by_row columns row term (subst (λ (q : Place). is_on_rows q term.test ≡ true) at on)

-- what stands there is what is tested
pub place_met : (columns : List Column) (term : Constraint) (row : Row) (place : Place) → place ≡ place_of columns term.column → is_on_rows place term.test ≡ true →
    passes term.test (value_at place row) ≡ meets_rest columns row term
place_met columns term row place at on =
    ap (λ (q : Place). passes term.test (value_at q row)) at ∙ met_by_row columns row term (subst (λ (q : Place). is_on_rows q term.test ≡ true) at on)

stored_value : (m : ℕ) (kind : Kind) (row : Row) → (kind ≡ IntKey → ⊥) → value_at (Declared m kind) row ≡ slice_index_or row.values (m - 1) Null
stored_value m IntKey row other = absurd (other refl)
stored_value m TextKey row other = refl
stored_value m (Int8Vector width metric) row other = refl
stored_value m (BitVector width) row other = refl
stored_value m IntPartition row other = refl
stored_value m TextPartition row other = refl
stored_value m IntMeta row other = refl
stored_value m TextMeta row other = refl
stored_value m BoolMeta row other = refl
stored_value m IntAux row other = refl
stored_value m TextAux row other = refl
stored_value m BlobAux row other = refl

numbered_value : (columns : List Column) (m : ℕ) (p : PlacedRow) → 1 ≤ m → column_value (record { columns = columns; placed = p }) m ≡ slice_index_or p.row.values (m - 1) Null
numbered_value columns zero p some = absurd (omega arith)
numbered_value columns (suc j) p some = ap (λ (n : ℕ). slice_index_or p.row.values n Null) (let e : j ≡ suc j - 1 = omega arith in e)

pub stored_at : (columns : List Column) (m : ℕ) (kind : Kind) (p : PlacedRow) → 1 ≤ m → (kind ≡ IntKey → ⊥) → column_value (record { columns = columns; placed = p }) m ≡ value_at (Declared m kind) p.row
stored_at columns m kind p some other = numbered_value columns m p some ∙ sym (stored_value m kind p.row other)

-- a declared place of a name
pub named_number : (columns : List Column) (name : List ℕ) (m : ℕ) (kind : Kind) → Declared m kind ≡ place_of columns name → 1 ≤ m
named_number columns name m kind at = (column_there columns name m kind (sym at)).0

-- ---- terms one after another

and_grouped : (a b c : Bool) → ((a && b) && c) ≡ (a && (b && c))
and_grouped true b c = refl
and_grouped false b c = refl

and_nothing : (a : Bool) → a ≡ (a && true)
and_nothing true = refl
and_nothing false = refl

first_of : (f : Constraint → Bool) (terms : List Constraint) (i : ℕ) (term : Constraint) → i < length terms → term ≡ get_or terms i term → list_all f (drop i terms) ≡ (f term && list_all f (drop (i + 1) terms))
first_of f terms i term less is = rw (drop-cons terms i term, add-one i) (ap (λ (t : Constraint). f t && list_all f (drop (suc i) terms)) (sym is))

-- one filter more
pub filters_more : (f : Constraint → Bool) (terms : List Constraint) (i : ℕ) (term : Constraint) (keep new whole : Bool) → i < length terms → term ≡ get_or terms i term → new ≡ (keep && f term) →
    (keep && list_all f (drop i terms)) ≡ whole → (new && list_all f (drop (i + 1) terms)) ≡ whole
filters_more f terms i term keep new whole less is passed so_far =
    ap (λ b. b && list_all f (drop (i + 1) terms)) passed
    ∙ and_grouped keep (f term) (list_all f (drop (i + 1) terms))
    ∙ ap (λ b. keep && b) (sym (first_of f terms i term less is))
    ∙ so_far

pub filters_end : (f : Constraint → Bool) (terms : List Constraint) (i : ℕ) (keep whole : Bool) → length terms ≤ i → (keep && list_all f (drop i terms)) ≡ whole → keep ≡ whole
filters_end f terms i keep whole end so_far = and_nothing keep ∙ ap (λ (l : List Constraint). keep && list_all f l) (sym (drop_all i terms end)) ∙ so_far

-- one term more that is met
pub met_more : (f : Constraint → Bool) (terms : List Constraint) (i : ℕ) (term : Constraint) (whole : Bool) → i < length terms → term ≡ get_or terms i term → f term ≡ true → list_all f (drop i terms) ≡ whole → list_all f (drop (i + 1) terms) ≡ whole
met_more f terms i term whole less is met so_far = ap (λ b. b && list_all f (drop (i + 1) terms)) (sym met) ∙ sym (first_of f terms i term less is) ∙ so_far

-- or that is not
pub met_not : (f : Constraint → Bool) (terms : List Constraint) (i : ℕ) (term : Constraint) (whole : Bool) → i < length terms → term ≡ get_or terms i term → f term ≡ false → list_all f (drop i terms) ≡ whole → false ≡ whole
met_not f terms i term whole less is fails so_far = ap (λ b. b && list_all f (drop (i + 1) terms)) (sym fails) ∙ sym (first_of f terms i term less is) ∙ so_far

pub met_end : (f : Constraint → Bool) (terms : List Constraint) (i : ℕ) (whole : Bool) → length terms ≤ i → list_all f (drop i terms) ≡ whole → true ≡ whole
met_end f terms i whole end so_far = ap (list_all f) (sym (drop_all i terms end)) ∙ so_far

-- what is known of a term
pub term_at : (table : PlacedTable) (plan : Planned) → (target : PlannedTarget) × IsReady table plan target → (i : ℕ) (term : Constraint) → i < length plan.select.where_terms → term ≡ get_or plan.select.where_terms i term →
    IsTermFor table.schema.columns true term
term_at table plan ready i term less is =
    subst (λ (t : Constraint). IsTermFor table.schema.columns true t) (sym is) (each_at (IsTermFor table.schema.columns true) plan.select.where_terms i term (terms_of table plan ready.0 ready.1) less)

-- what a partition value answers of a term of the plan
pub value_at_term : (table : PlacedTable) (plan : Planned) → (target : PlannedTarget) × IsReady table plan target → (i : ℕ) (term : Constraint) (columns : List PlannedColumn) (d : PlannedColumn) (values : List Value) (c s : ℕ) (p : PlacedRow) →
    i < length plan.select.where_terms → term ≡ get_or plan.select.where_terms i term → columns ≡ plan.terms → row_at table.rows c s ≡ Some p → values ≡ partition_of table.schema.columns p.row.values →
    (not (is_of is_partition (get_or columns i d).place) || passes term.test (slice_index_or values (get_or columns i d).number Null)) ≡ meets_on is_partition table.schema.columns p.row term
value_at_term table plan ready i term columns d values c s p less is are there kept =
    value_met table term (get_or columns i d) values c s p (column_of table.schema.columns plan.select.where_terms columns i d term (are ∙ ready.1.plan_for.terms) less is) ready.1.placed.valid.values there kept

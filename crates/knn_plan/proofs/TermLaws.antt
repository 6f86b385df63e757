-- The terms of a SELECT that the checks take fit their columns.
use Rattle.std.proofs.Common.{◌≡◌, ℕ, Bool, true, false, List, [], ◌∷◌, ◌++◌, refl, ap₂, None}
use Rattle.std.specs.Prelude.{if◌then◌else◌, not, ◌&&◌, ◌||◌, nat_lt, is_some}
use Rattle.std.specs.List.{flat_map, list_all, AllByRecursion}
use Rattle.vec_base.specs.declared.refusal.Refusal.TheVariants.{NoColumn, WrongType, KnnForm}
use Rattle.vec_base.specs.declared.value.Value.{Value}
use Rattle.row_model.specs.Check.{next, index_after, item_count, test_values, range_faults, term_value_faults, term_faults, terms_faults, some_term, match_count, is_nearest, k_count, matches_no_vector, is_on_auxiliary, compares_vector, has_untaken_operator, is_beside_bounds, counts_without_equal, has_one_count, has_distance_item, is_by_distance, is_by_rowid, select_forms, check_select}
use Rattle.row_model.specs.ColumnNames.{place_of, column_number, is_count, is_unknown}
use Rattle.row_model.specs.RefusalOrder.{when}
use Rattle.row_model.specs.Values.{is_of_type, shape_faults, value_faults}
use Rattle.row_model.specs.declared.rules.TheConstants.{SECOND_MATCH, MATCH_OF_NO_VECTOR, MATCH_WITHOUT_ONE_COUNT, COUNT_WITHOUT_MATCH, DISTANCE_WITHOUT_MATCH, MATCH_BY_ROWID, AUXILIARY_BESIDE_MATCH, VECTOR_COMPARED, UNTAKEN_OPERATOR, DISTANCE_BESIDE_BOUNDS, COUNT_WITHOUT_EQUAL}
use Rattle.row_model.specs.declared.schema.Column.{Column}
use Rattle.row_model.specs.declared.schema.Place.{Place}
use Rattle.row_model.specs.declared.statement.Constraint.{Constraint}
use Rattle.row_model.specs.declared.statement.Select.{Select}
use Rattle.row_model.proofs.BoolLaws.{not_false, or_first, or_second}
use Rattle.row_model.proofs.SelectLaws.{both_empty, when_empty, checked}
use Rattle.knn_plan.proofs.ChangeLaws.{noted, none_noted}

-- The name is that of a column, and the values are of its type. A MATCH is on vectors, and vectors are in a MATCH alone. Truth values are compared
-- for equality, and auxiliary columns have no IN and no place beside a MATCH. A term on distance is a bound beside a MATCH, and one on k an equality.
pub record IsTermFor (columns : List Column) (nearest : Bool) (term : Constraint) : Type 0 where
  pub known : is_unknown (place_of columns term.column) ≡ false
  pub typed : list_all (is_of_type (place_of columns term.column)) (test_values term.test) ≡ true
  pub matches : matches_no_vector (place_of columns term.column) term.test ≡ false
  pub vector : compares_vector (place_of columns term.column) term.test ≡ false
  pub operator : has_untaken_operator (place_of columns term.column) term.test ≡ false
  pub bound : is_beside_bounds nearest (place_of columns term.column) term.test ≡ false
  pub equal : counts_without_equal (place_of columns term.column) term.test ≡ false
  pub beside : (nearest && is_on_auxiliary (place_of columns term.column) term.test) ≡ false

-- ---- the form rules that speak of each term

record KeepForms (columns : List Column) (nearest : Bool) (terms : List Constraint) : Type 0 where
  matches : some_term columns matches_no_vector terms ≡ false
  vector : some_term columns compares_vector terms ≡ false
  operator : some_term columns has_untaken_operator terms ≡ false
  bound : some_term columns (is_beside_bounds nearest) terms ≡ false
  equal : some_term columns counts_without_equal terms ≡ false
  beside : (nearest && some_term columns is_on_auxiliary terms) ≡ false

-- a test of a list with an element in front, where another test holds
beside_first : (n a b : Bool) → (n && (a || b)) ≡ false → (n && a) ≡ false
beside_first true a b none = or_first a b none
beside_first false a b none = refl

beside_second : (n a b : Bool) → (n && (a || b)) ≡ false → (n && b) ≡ false
beside_second true a b none = or_second a b none
beside_second false a b none = refl

-- the rules behind the first and before those on `distance` and `k`, in their order
abbrev select_tests : List Column → Select → List (Bool × ℕ)
select_tests columns select =
    let terms = select.where_terms in
    let nearest = is_nearest terms in
    (some_term columns matches_no_vector terms, MATCH_OF_NO_VECTOR) ∷ (nearest && not (has_one_count (k_count columns terms) (is_some select.limit)), MATCH_WITHOUT_ONE_COUNT)
    ∷ (not nearest && nat_lt 0 (k_count columns terms), COUNT_WITHOUT_MATCH)
    ∷ (not nearest && (has_distance_item columns select.items || is_by_distance select.order), DISTANCE_WITHOUT_MATCH) ∷ (nearest && is_by_rowid select.order, MATCH_BY_ROWID)
    ∷ (nearest && some_term columns is_on_auxiliary terms, AUXILIARY_BESIDE_MATCH) ∷ (some_term columns compares_vector terms, VECTOR_COMPARED)
    ∷ (some_term columns has_untaken_operator terms, UNTAKEN_OPERATOR) ∷ []

forms_kept : (columns : List Column) (select : Select) → select_forms columns select ≡ [] → KeepForms columns (is_nearest select.where_terms) select.where_terms
forms_kept columns select empty =
    let terms = select.where_terms in
    let first = when (nat_lt 1 (match_count terms)) (KnnForm SECOND_MATCH) in
    let bounds = when (some_term columns (is_beside_bounds (is_nearest terms)) terms) (KnnForm DISTANCE_BESIDE_BOUNDS) in
    let counts = when (some_term columns counts_without_equal terms) (KnnForm COUNT_WITHOUT_EQUAL) in
    let parts = both_empty (noted first (select_tests columns select)) (bounds ++ counts) empty in
    let tests = (none_noted first (select_tests columns select) parts.0).1 in
    let hidden = both_empty bounds counts parts.1 in
    record {
      matches = tests.0;
      vector = tests.1.1.1.1.1.1.0;
      operator = tests.1.1.1.1.1.1.1.0;
      bound = when_empty (some_term columns (is_beside_bounds (is_nearest terms)) terms) (KnnForm DISTANCE_BESIDE_BOUNDS) hidden.0;
      equal = when_empty (some_term columns counts_without_equal terms) (KnnForm COUNT_WITHOUT_EQUAL) hidden.1;
      beside = tests.1.1.1.1.1.0;
    }

-- ---- the values

typed_values : (place : Place) (values : List Value) → flat_map (term_value_faults place) values ≡ [] → list_all (is_of_type place) values ≡ true
typed_values place [] none = refl
typed_values place (value ∷ values) none =
    let parts = both_empty (term_value_faults place value) (flat_map (term_value_faults place) values) none in
    let here = both_empty (value_faults place value) (if is_count place then range_faults value else []) parts.0 in
    let types = both_empty (when (not (is_of_type place value)) (WrongType (column_number place))) (shape_faults place value) here.0 in
    ap₂ (λ a b. a && b) (not_false (is_of_type place value) (when_empty (not (is_of_type place value)) (WrongType (column_number place)) types.0)) (typed_values place values parts.1)

-- ---- the terms

each_fits : (columns : List Column) (nearest : Bool) (index : ℕ) (terms : List Constraint) → terms_faults columns index terms ≡ [] → KeepForms columns nearest terms → AllByRecursion (IsTermFor columns nearest) terms
each_fits columns nearest index [] none keep = tt
each_fits columns nearest index (term ∷ terms) none keep =
    let place = place_of columns term.column in
    let parts = both_empty (term_faults columns index term) (terms_faults columns (next index) terms) none in
    let here = both_empty (when (is_unknown place) (NoColumn index)) (flat_map (term_value_faults place) (test_values term.test)) parts.0 in (
      record {
        known = when_empty (is_unknown place) (NoColumn index) here.0;
        typed = typed_values place (test_values term.test) here.1;
        matches = or_first (matches_no_vector place term.test) (some_term columns matches_no_vector terms) keep.matches;
        vector = or_first (compares_vector place term.test) (some_term columns compares_vector terms) keep.vector;
        operator = or_first (has_untaken_operator place term.test) (some_term columns has_untaken_operator terms) keep.operator;
        bound = or_first (is_beside_bounds nearest place term.test) (some_term columns (is_beside_bounds nearest) terms) keep.bound;
        equal = or_first (counts_without_equal place term.test) (some_term columns counts_without_equal terms) keep.equal;
        beside = beside_first nearest (is_on_auxiliary place term.test) (some_term columns is_on_auxiliary terms) keep.beside;
      },
      each_fits columns nearest (next index) terms parts.1 (record {
        matches = or_second (matches_no_vector place term.test) (some_term columns matches_no_vector terms) keep.matches;
        vector = or_second (compares_vector place term.test) (some_term columns compares_vector terms) keep.vector;
        operator = or_second (has_untaken_operator place term.test) (some_term columns has_untaken_operator terms) keep.operator;
        bound = or_second (is_beside_bounds nearest place term.test) (some_term columns (is_beside_bounds nearest) terms) keep.bound;
        equal = or_second (counts_without_equal place term.test) (some_term columns counts_without_equal terms) keep.equal;
        beside = beside_second nearest (is_on_auxiliary place term.test) (some_term columns is_on_auxiliary terms) keep.beside;
      }),
    )

pub terms_fit : (columns : List Column) (select : Select) → check_select columns select ≡ None → AllByRecursion (IsTermFor columns (is_nearest select.where_terms)) select.where_terms
terms_fit columns select taken =
    let parts = checked columns select taken in
    each_fits columns (is_nearest select.where_terms) (index_after (item_count select.items)) select.where_terms parts.terms (forms_kept columns select parts.forms)

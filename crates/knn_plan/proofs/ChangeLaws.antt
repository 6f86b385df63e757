-- Where the checks take an UPDATE or a DELETE, they take the SELECT of the rows that it changes.
use Rattle.std.proofs.Common.{◌≡◌, ℕ, Bool, true, false, List, [], ◌∷◌, ◌++◌, refl, sym, ◌∙◌, ap, ap₂, length, None}
use Rattle.std.specs.Prelude.{not, ◌&&◌, ◌||◌, nat_lt}
use Rattle.std.specs.List.{list_any, flat_map, AllByRecursion}
use Rattle.vec_base.specs.declared.refusal.Refusal.{Refusal}
use Rattle.vec_base.specs.declared.refusal.Refusal.TheVariants.{NoColumn, KnnForm}
use Rattle.row_model.specs.Check.{next, index_after, test_values, term_value_faults, term_faults, terms_faults, sets_faults, some_term, match_count, is_nearest, k_count, matches_no_vector, is_on_auxiliary, compares_vector, has_untaken_operator, is_bound, is_on_distance, is_beside_bounds, counts_without_equal, has_one_count, select_forms, change_forms, check_update, check_delete, check_select, update_faults, delete_faults}
use Rattle.row_model.specs.ColumnNames.{place_of, is_unknown, is_distance}
use Rattle.row_model.specs.RefusalOrder.{when, least}
use Rattle.row_model.specs.declared.rules.TheConstants.{SECOND_MATCH, MATCH_OF_NO_VECTOR, MATCH_WITHOUT_ONE_COUNT, COUNT_WITHOUT_MATCH, DISTANCE_WITHOUT_MATCH, MATCH_BY_ROWID, AUXILIARY_BESIDE_MATCH, VECTOR_COMPARED, UNTAKEN_OPERATOR, CHANGE_BY_MATCH, DISTANCE_BESIDE_BOUNDS, COUNT_WITHOUT_EQUAL}
use Rattle.row_model.specs.declared.schema.Column.{Column}
use Rattle.row_model.specs.declared.statement.Constraint.{Constraint}
use Rattle.row_model.specs.declared.statement.Delete.{Delete}
use Rattle.row_model.specs.declared.statement.Update.{Update}
use Rattle.row_model.proofs.BoolLaws.{or_first, or_second}
use Rattle.row_model.proofs.SelectLaws.{least_none, both_empty, when_empty}
use Rattle.knn_plan.specs.Plans.{rows_with}

-- what a call answered, at the equal argument
pub told : {A B : Type 0} (f : A → B) (given real : A) (answer said : B) → given ≡ real → answer ≡ f given → answer ≡ said → f real ≡ said
told f given real answer said same answered is = ap f (sym same) ∙ sym answered ∙ is

-- ---- refusals noted one after another

abbrev pub noted : List Refusal → List (Bool × ℕ) → List Refusal
noted faults [] = faults
noted faults (t ∷ ts) = noted (faults ++ when t.0 (KnnForm t.1)) ts

-- where none is left, no test holds
pub none_noted : (faults : List Refusal) (ts : List (Bool × ℕ)) → noted faults ts ≡ [] → (faults ≡ []) × AllByRecursion (λ t. t.0 ≡ false) ts
none_noted faults [] empty = (empty, tt)
none_noted faults (t ∷ ts) empty =
    let later = none_noted (faults ++ when t.0 (KnnForm t.1)) ts empty in
    let parts = both_empty faults (when t.0 (KnnForm t.1)) later.0 in
    (parts.0, (when_empty t.0 (KnnForm t.1) parts.1, later.1))

-- and the other way round
noted_none : (faults : List Refusal) (ts : List (Bool × ℕ)) → faults ≡ [] → AllByRecursion (λ t. t.0 ≡ false) ts → noted faults ts ≡ []
noted_none faults [] empty fail = empty
noted_none faults (t ∷ ts) empty fail = noted_none (faults ++ when t.0 (KnnForm t.1)) ts (ap₂ (λ (fs : List Refusal) (b : Bool). fs ++ when b (KnnForm t.1)) empty fail.0) fail.1

-- ---- the form rules

-- a test that fails wherever another one does
fails_with : (p q : Constraint → Bool) → ((term : Constraint) → q term ≡ false → p term ≡ false) → (terms : List Constraint) → list_any q terms ≡ false → list_any p terms ≡ false
fails_with p q weaker [] fails = refl
fails_with p q weaker (term ∷ terms) fails =
    ap₂ (λ a b. a || b) (weaker term (or_first (q term) (list_any q terms) fails)) (fails_with p q weaker terms (or_second (q term) (list_any q terms) fails))

and_false : (b : Bool) → b && false ≡ false
and_false true = refl
and_false false = refl

-- the rules of a change behind the first
abbrev change_tests : List Column → List Constraint → List (Bool × ℕ)
change_tests columns terms =
    (some_term columns matches_no_vector terms, MATCH_OF_NO_VECTOR) ∷ (is_nearest terms && not (has_one_count (k_count columns terms) false), MATCH_WITHOUT_ONE_COUNT)
    ∷ (is_nearest terms && some_term columns is_on_auxiliary terms, AUXILIARY_BESIDE_MATCH) ∷ (some_term columns compares_vector terms, VECTOR_COMPARED)
    ∷ (some_term columns has_untaken_operator terms, UNTAKEN_OPERATOR) ∷ (is_nearest terms || nat_lt 0 (k_count columns terms), CHANGE_BY_MATCH)
    ∷ (some_term columns is_on_distance terms, DISTANCE_BESIDE_BOUNDS) ∷ (some_term columns counts_without_equal terms, COUNT_WITHOUT_EQUAL) ∷ []

-- none of them is broken
record AreSound (columns : List Column) (terms : List Constraint) : Type 0 where
  matches : nat_lt 1 (match_count terms) ≡ false
  vectors : some_term columns matches_no_vector terms ≡ false
  compared : some_term columns compares_vector terms ≡ false
  operators : some_term columns has_untaken_operator terms ≡ false
  plain : is_nearest terms ≡ false
  counted : nat_lt 0 (k_count columns terms) ≡ false
  distance : some_term columns is_on_distance terms ≡ false
  equal : some_term columns counts_without_equal terms ≡ false

are_sound : (columns : List Column) (terms : List Constraint) → change_forms columns terms ≡ [] → AreSound columns terms
are_sound columns terms empty =
    let first = when (nat_lt 1 (match_count terms)) (KnnForm SECOND_MATCH) in
    let all = none_noted first (change_tests columns terms) empty in
    let later = all.1 in
    let by_match = later.1.1.1.1.1.0 in
    record {
      matches = when_empty (nat_lt 1 (match_count terms)) (KnnForm SECOND_MATCH) all.0;
      vectors = later.0;
      compared = later.1.1.1.0;
      operators = later.1.1.1.1.0;
      plain = or_first (is_nearest terms) (nat_lt 0 (k_count columns terms)) by_match;
      counted = or_second (is_nearest terms) (nat_lt 0 (k_count columns terms)) by_match;
      distance = later.1.1.1.1.1.1.0;
      equal = later.1.1.1.1.1.1.1.0;
    }

-- no bound on distance is there, so none has no MATCH beside it
no_bounds : (columns : List Column) (nearest : Bool) (terms : List Constraint) → some_term columns is_on_distance terms ≡ false → some_term columns (is_beside_bounds nearest) terms ≡ false
no_bounds columns nearest terms none =
    fails_with (λ term. is_beside_bounds nearest (place_of columns term.column) term.test) (λ term. is_distance (place_of columns term.column))
    (λ term fails. ap (λ b. b && not (nearest && is_bound term.test)) fails) terms none

-- the rules of the SELECT
select_sound : (columns : List Column) (table : List ℕ) (terms : List Constraint) → AreSound columns terms → select_forms columns (rows_with table terms) ≡ []
select_sound columns table terms sound =
    let nearest = is_nearest terms in
    let first : when (nat_lt 1 (match_count terms)) (KnnForm SECOND_MATCH) ≡ [] = ap (λ b. when b (KnnForm SECOND_MATCH)) sound.matches in
    let later : List (Bool × ℕ) =
    (some_term columns matches_no_vector terms, MATCH_OF_NO_VECTOR) ∷ (nearest && not (has_one_count (k_count columns terms) false), MATCH_WITHOUT_ONE_COUNT)
    ∷ (not nearest && nat_lt 0 (k_count columns terms), COUNT_WITHOUT_MATCH) ∷ (not nearest && false, DISTANCE_WITHOUT_MATCH)
    ∷ (nearest && false, MATCH_BY_ROWID) ∷ (nearest && some_term columns is_on_auxiliary terms, AUXILIARY_BESIDE_MATCH) ∷ (some_term columns compares_vector terms, VECTOR_COMPARED)
    ∷ (some_term columns has_untaken_operator terms, UNTAKEN_OPERATOR) ∷ [] in
    let others : noted (when (nat_lt 1 (match_count terms)) (KnnForm SECOND_MATCH)) later ≡ [] =
    noted_none (when (nat_lt 1 (match_count terms)) (KnnForm SECOND_MATCH)) later first (
      sound.vectors,
      (
        ap (λ b. b && not (has_one_count (k_count columns terms) false)) sound.plain,
        (
          ap (λ b. not nearest && b) sound.counted ∙ and_false (not nearest),
          (and_false (not nearest), (and_false nearest, (ap (λ b. b && some_term columns is_on_auxiliary terms) sound.plain, (sound.compared, (sound.operators, tt))))),
        ),
      ),
    ) in
    let hidden = no_bounds columns nearest terms sound.distance in
    ap₂ (λ (fs gs : List Refusal). fs ++ gs) others
    (ap₂ (λ a b. when a (KnnForm DISTANCE_BESIDE_BOUNDS) ++ when b (KnnForm COUNT_WITHOUT_EQUAL)) hidden sound.equal)

-- ---- the terms

-- what refuses a term does not hang on its index
any_index : (columns : List Column) (i j : ℕ) (terms : List Constraint) → terms_faults columns i terms ≡ [] → terms_faults columns j terms ≡ []
any_index columns i j [] none = refl
any_index columns i j (term ∷ terms) none =
    let place = place_of columns term.column in
    let parts = both_empty (term_faults columns i term) (terms_faults columns (next i) terms) none in
    let here = both_empty (when (is_unknown place) (NoColumn i)) (flat_map (term_value_faults place) (test_values term.test)) parts.0 in
    ap₂ (λ (fs gs : List Refusal). fs ++ gs)
    (ap₂ (λ (b : Bool) (fs : List Refusal). when b (NoColumn j) ++ fs) (when_empty (is_unknown place) (NoColumn i) here.0) here.1)
    (any_index columns (next i) (next j) terms parts.1)

-- ---- the statements

rows_taken : (columns : List Column) (table : List ℕ) (i : ℕ) (terms : List Constraint) → terms_faults columns i terms ≡ [] → change_forms columns terms ≡ [] →
    (check_select columns (rows_with table terms) ≡ None) × (is_nearest terms ≡ false)
rows_taken columns table i terms none forms =
    let sound = are_sound columns terms forms in (
      ap₂ (λ (ts fs : List Refusal). least ((([] ++ ts) ++ []) ++ fs)) (any_index columns i (index_after 0) terms none) (select_sound columns table terms sound),
      sound.plain,
    )

pub update_rows : (columns : List Column) (update : Update) → check_update columns update ≡ None →
    (check_select columns (rows_with update.table update.where_terms) ≡ None) × (is_nearest update.where_terms ≡ false)
update_rows columns update taken =
    let sets = sets_faults columns [] 1 update.sets in
    let terms = terms_faults columns (index_after (length update.sets)) update.where_terms in
    let parts = both_empty (sets ++ terms) (change_forms columns update.where_terms) (least_none (update_faults columns update) taken) in
    rows_taken columns update.table (index_after (length update.sets)) update.where_terms (both_empty sets terms parts.0).1 parts.1

pub delete_rows : (columns : List Column) (delete : Delete) → check_delete columns delete ≡ None →
    (check_select columns (rows_with delete.table delete.where_terms) ≡ None) × (is_nearest delete.where_terms ≡ false)
delete_rows columns delete taken =
    let parts = both_empty (terms_faults columns 1 delete.where_terms) (change_forms columns delete.where_terms) (least_none (delete_faults columns delete) taken) in
    rows_taken columns delete.table 1 delete.where_terms parts.0 parts.1

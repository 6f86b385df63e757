-- What a plan for the columns of a table gives.
use Rattle.std.proofs.Common.{◌≡◌, ℕ, ◌<◌, ◌≤◌, Bool, true, false, cond, if◌then◌else◌, List, [], ◌∷◌, refl, sym, ◌∙◌, ap, subst, arith, length, get_or, Option, Some, None, inl, inr}
use Rattle.std.specs.Prelude.{◌||◌, is_some, nat_lt, position}
use Rattle.std.specs.List.{list_any, position_or_len, AllByRecursion}
use Rattle.std.specs.Option.{option_map}
use Rattle.std.proofs.lemmas.Bool.{cases_Bool, false≢true, ltb-false}
use Rattle.std.proofs.lemmas.List.{get_or-map}
use Rattle.vec_base.specs.declared.limits.TheConstants.{MOST_REPLY_ROWS}
use Rattle.vec_base.specs.declared.value.Value.{Value}
use Rattle.row_model.specs.Answer.{Target, is_point_term, or_later, shape_by, target_in, target_of, vector_of}
use Rattle.row_model.specs.ColumnNames.{is_of, place_of}
use Rattle.row_model.specs.inner.ComparableVectors.{IsComparable}
use Rattle.row_model.specs.Schemas.{has_role, is_same_role, is_vector}
use Rattle.row_model.specs.Valid.{IsValidTable}
use Rattle.row_model.specs.Values.{value_at}
use Rattle.row_model.specs.declared.request.Shape.{Shape}
use Rattle.row_model.specs.declared.request.Shape.TheVariants.{Point, Scan, Nearest}
use Rattle.row_model.specs.declared.row.Row.{Row}
use Rattle.row_model.specs.declared.row.Table.{Table}
use Rattle.row_model.specs.declared.schema.Column.{Column}
use Rattle.row_model.specs.declared.schema.Role.{Role}
use Rattle.row_model.specs.declared.schema.Role.TheVariants.{Key, Vector}
use Rattle.row_model.specs.declared.statement.Constraint.{Constraint}
use Rattle.row_model.specs.declared.statement.Test.{Test}
use Rattle.row_model.specs.declared.statement.Test.TheVariants.{Compare, Member, Match}
use Rattle.row_model.proofs.SelectLaws.{comparable_rows, few_wanted}
use Rattle.knn_plan.specs.PlannedColumns.{planned_column, term_column}
use Rattle.knn_plan.specs.Plans.{IsPlanFor, Planned, PlannedTarget, planned_target}
use Rattle.knn_plan.specs.declared.column.PlannedColumn.{PlannedColumn}
use Rattle.knn_plan.proofs.NumberLaws.{role_shows, values_of}

-- ---- the columns of the terms

-- the column at an index is that of the term there
pub term_there : (columns : List Column) (plan : Planned) → IsPlanFor columns plan → (i : ℕ) (term : Constraint) (d : PlannedColumn) → i < length plan.select.where_terms →
    get_or plan.terms i d ≡ term_column columns (get_or plan.select.where_terms i term)
term_there columns plan is i term d within =
    let terms = plan.select.where_terms in
    ap (λ (cs : List PlannedColumn). get_or cs i d) is.terms ∙ get_or-map (term_column columns) terms i term d within

-- The value of a term's column stands at its number among those of the columns that are for the same.
pub term_shows : {A : Type 0} (role : Role) (f : Value → A) (columns : List Column) (plan : Planned) → IsPlanFor columns plan → (i : ℕ) (term : Constraint) (c : PlannedColumn) (row : Row) (d : A) →
    i < length plan.select.where_terms → is_same_role role Key ≡ false → is_of (has_role role) (get_or plan.terms i c).place ≡ true → length row.values ≡ length columns →
    get_or (values_of (has_role role) f columns row.values) (get_or plan.terms i c).number d ≡ f (value_at (get_or plan.terms i c).place row)
term_shows role f columns plan is i term c row d within plain on wide =
    let there = term_there columns plan is i term c within in
    subst (λ (p : PlannedColumn). is_of (has_role role) p.place ≡ true → get_or (values_of (has_role role) f columns row.values) p.number d ≡ f (value_at p.place row)) (sym there)
    (λ on_there. role_shows role f columns (get_or plan.select.where_terms i term).column row d plain on_there wide) on

-- ---- the target

-- where the first MATCH stands, its place is that of a name
record IsNamed (columns : List Column) (target : Target) : Type 0 where
  name : List ℕ
  place : target.place ≡ place_of columns name

abbrev target_or : Target → Option Target → Target
target_or other None = other
target_or other (Some target) = target

named_first : (columns : List Column) (name : List ℕ) (test : Test) (rest : Option Target) (target : Target) → or_later (target_in (place_of columns name) test) rest ≡ Some target →
    (rest ≡ Some target → IsNamed columns target) → IsNamed columns target
named_first columns name (Compare op value) rest target found later = later found
named_first columns name (Member values) rest target found later = later found
named_first columns name (Match query) rest target found later = record { name = name; place = sym (ap (λ o. (target_or target o).place) found) }

target_named : (columns : List Column) (terms : List Constraint) (target : Target) → target_of columns terms ≡ Some target → IsNamed columns target
target_named columns [] target found = absurd cc
target_named columns (term ∷ terms) target found = named_first columns term.column term.test (target_of columns terms) target found (target_named columns terms target)

-- what is mapped came of a target
record ComesOf (columns : List Column) (select_target : Option Target) (planned : PlannedTarget) : Type 0 where
  target : Target
  found : select_target ≡ Some target
  shown : planned ≡ planned_target columns target

abbrev planned_or : PlannedTarget → Option PlannedTarget → PlannedTarget
planned_or other None = other
planned_or other (Some target) = target

comes_of : (columns : List Column) (o : Option Target) (planned : PlannedTarget) → option_map (planned_target columns) o ≡ Some planned → ComesOf columns o planned
comes_of columns None planned is = absurd cc
comes_of columns (Some target) planned is = record { target = target; found = refl; shown = sym (ap (planned_or planned) is) }

-- the target of the plan is that of the terms
abbrev pub plain_target : PlannedTarget → Target
plain_target planned = record { place = planned.column.place; query = planned.query }

pub target_found : (columns : List Column) (plan : Planned) → IsPlanFor columns plan → (planned : PlannedTarget) → plan.target ≡ Some planned →
    target_of columns plan.select.where_terms ≡ Some (plain_target planned)
target_found columns plan is planned found =
    let from = comes_of columns (target_of columns plan.select.where_terms) planned (sym is.target ∙ found) in
    from.found ∙ ap (λ (p : PlannedTarget). Some (plain_target p)) (sym from.shown)

-- the vectors of a valid table's rows have a distance from it
pub rows_comparable : (table : Table) (plan : Planned) → IsPlanFor table.schema.columns plan → IsValidTable table → (planned : PlannedTarget) → plan.target ≡ Some planned →
    AllByRecursion (IsComparable (plain_target planned)) table.rows
rows_comparable table plan is valid planned found =
    comparable_rows table plan.select valid is.checked (plain_target planned) (target_found table.schema.columns plan is planned found)

-- and no more rows are wanted than a reply has
pub count_small : (columns : List Column) (plan : Planned) → IsPlanFor columns plan → (planned : PlannedTarget) → plan.target ≡ Some planned → plan.count ≤ MOST_REPLY_ROWS
count_small columns plan is planned found =
    subst (λ (n : ℕ). n ≤ MOST_REPLY_ROWS) (sym is.count) (few_wanted columns plan.select is.checked (plain_target planned) (target_found columns plan is planned found))

-- The vector of a row that is comparable stands at the column's number among the vectors.
pub target_shows : (columns : List Column) (plan : Planned) → IsPlanFor columns plan → (planned : PlannedTarget) → plan.target ≡ Some planned → (row : Row) → IsComparable (plain_target planned) row →
    length row.values ≡ length columns → get_or (values_of is_vector vector_of columns row.values) planned.column.number [] ≡ vector_of (value_at planned.column.place row)
target_shows columns plan is planned found row comparable wide =
    let from = comes_of columns (target_of columns plan.select.where_terms) planned (sym is.target ∙ found) in
    let named = target_named columns plan.select.where_terms from.target from.found in
    let place = ap (λ (p : PlannedTarget). p.column) from.shown ∙ ap (planned_column columns) named.place in
    subst (λ (p : PlannedColumn). is_of is_vector p.place ≡ true → get_or (values_of is_vector vector_of columns row.values) p.number [] ≡ vector_of (value_at p.place row)) (sym place)
    (λ on. role_shows Vector vector_of columns named.name row [] refl on wide) comparable.column

-- ---- the shape

-- where some element passes there is a first one
first_below : {A : Type 0} (test : A → Bool) (xs : List A) → list_any test xs ≡ true → position_or_len test xs < length xs
first_below test [] some = absurd cc
first_below test (x ∷ xs) some =
    elim (cases_Bool (test x)) [
      | inl here ↦ rw here (omega arith)
      | inr away ↦
          let later : list_any test xs ≡ true = sym (ap (λ b. b || list_any test xs) away) ∙ some in
          let rest = first_below test xs later in
          rw away (omega (arith, rest))
    ]

pub first_found : {A : Type 0} (test : A → Bool) (xs : List A) → list_any test xs ≡ true → is_some (position test xs) ≡ true
first_found test xs some =
    let below = first_below test xs some in
    elim (cases_Bool (nat_lt (position_or_len test xs) (length xs))) [
      | inl less ↦ ap (λ b. is_some (cond b (Some (position_or_len test xs)) None)) less
      | inr most ↦ (let above = ltb-false (position_or_len test xs) (length xs) most in absurd (omega (arith, above, below)))
    ]

abbrev is_point : Shape → Bool
is_point Point = true
is_point _ = false

shaped_point : (columns : List Column) (terms : List Constraint) (target : Option Target) (some : Bool) → list_any (is_point_term columns) terms ≡ some → shape_by target columns terms ≡ Point → some ≡ true
shaped_point columns terms (Some target) some is shaped = absurd (false≢true (ap is_point shaped))
shaped_point columns terms None true is shaped = refl
shaped_point columns terms None false is shaped = absurd (false≢true (ap (λ b. is_point (if b then Point else Scan)) (sym is) ∙ ap is_point shaped))

-- a plan by a rowid or key has a term that says which
pub point_there : (columns : List Column) (plan : Planned) → IsPlanFor columns plan → plan.shape ≡ Point → is_some plan.point ≡ true
point_there columns plan is point =
    let terms = plan.select.where_terms in
    ap is_some is.point
    ∙ first_found (is_point_term columns) terms (shaped_point columns terms (target_of columns terms) (list_any (is_point_term columns) terms) refl (sym is.shape ∙ point))

abbrev pub is_nearest_shape : Shape → Bool
is_nearest_shape Nearest = true
is_nearest_shape _ = false

plain_shape : (columns : List Column) (terms : List Constraint) (some : Bool) → is_nearest_shape (if some then Point else Scan) ≡ false
plain_shape columns terms true = refl
plain_shape columns terms false = refl

shaped_nearest : (columns : List Column) (terms : List Constraint) (target : Option Target) → is_some (option_map (planned_target columns) target) ≡ is_nearest_shape (shape_by target columns terms)
shaped_nearest columns terms None = sym (plain_shape columns terms (list_any (is_point_term columns) terms))
shaped_nearest columns terms (Some target) = refl

-- a plan has a target exactly where it is one by distance
pub target_there : (columns : List Column) (plan : Planned) → IsPlanFor columns plan → is_some plan.target ≡ is_nearest_shape plan.shape
target_there columns plan is =
    ap is_some is.target ∙ shaped_nearest columns plan.select.where_terms (target_of columns plan.select.where_terms) ∙ ap is_nearest_shape (sym is.shape)

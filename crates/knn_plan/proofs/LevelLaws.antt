-- A row counts where it meets the terms at each level.
use Rattle.std.proofs.Common.{◌≡◌, ℕ, Bool, true, false, not, ◌&&◌, ◌||◌, cond, List, [], ◌∷◌, refl, ap₂, ◌∙◌}
use Rattle.std.specs.List.{list_all}
use Rattle.vec_base.specs.declared.value.Value.{Value}
use Rattle.row_model.specs.Answer.{Near, counts, is_bounded}
use Rattle.row_model.specs.Check.{is_on_distance, some_term}
use Rattle.row_model.specs.ColumnNames.{is_count, is_distance, is_of, place_of}
use Rattle.row_model.specs.Schemas.{is_metadata, is_partition}
use Rattle.row_model.specs.Values.{meets, passes, value_at}
use Rattle.row_model.specs.declared.row.Row.{Row}
use Rattle.row_model.specs.declared.schema.Column.{Column}
use Rattle.row_model.specs.declared.schema.Place.{Place}
use Rattle.row_model.specs.declared.schema.Place.TheVariants.{Unknown, Rowid, Declared, Count, Distance}
use Rattle.row_model.specs.declared.statement.Constraint.{Constraint}
use Rattle.row_model.specs.declared.statement.Test.{Test}
use Rattle.row_model.specs.declared.statement.Test.TheVariants.{Compare, Member, Match}
use Rattle.row_model.proofs.BoolLaws.{not_false, or_first, or_second}
use Rattle.knn_plan.specs.Levels.{meets_on, meets_rest, meets_bound}
use Rattle.knn_plan.specs.TermUses.{is_on_chunks, is_on_rows}

-- ---- one term

and_true : (b : Bool) → b ≡ (b && true)
and_true true = refl
and_true false = refl

by_sorts : (p m b : Bool) → b ≡ ((((not p || b) && (not m || b)) && ((p || m) || b)) && true)
by_sorts true true true = refl
by_sorts true true false = refl
by_sorts true false true = refl
by_sorts true false false = refl
by_sorts false true true = refl
by_sorts false true false = refl
by_sorts false false true = refl
by_sorts false false false = refl

at_levels : (place : Place) (met bounded : Bool) → cond (is_distance place) bounded met
    ≡ ((((not (is_of is_partition place) || met) && (not (is_of is_metadata place) || met)) && (is_on_chunks place || (is_distance place || met))) && (not (is_distance place) || bounded))
at_levels Unknown met bounded = and_true met
at_levels Rowid met bounded = and_true met
at_levels (Declared number kind) met bounded = by_sorts (is_partition kind) (is_metadata kind) met
at_levels Count met bounded = and_true met
at_levels Distance met bounded = refl

-- ---- all terms

regrouped : (a b c d w x y z : Bool) → ((((a && b) && c) && d) && (((w && x) && y) && z)) ≡ ((((a && w) && (b && x)) && (c && y)) && (d && z))
regrouped true true true true w x y z = refl
regrouped true true true false true true true z = refl
regrouped true true true false true true false z = refl
regrouped true true true false true false y z = refl
regrouped true true true false false x y z = refl
regrouped true true false d true true y z = refl
regrouped true true false d true false y z = refl
regrouped true true false d false x y z = refl
regrouped true false c d true x y z = refl
regrouped true false c d false x y z = refl
regrouped false b c d w x y z = refl

-- A row with its distance counts where its partition values, its metadata, the rest of it and the distance meet the terms.
pub counts_by_levels : (columns : List Column) (terms : List Constraint) (near : Near) → counts columns terms near
    ≡ (((list_all (meets_on is_partition columns near.row) terms && list_all (meets_on is_metadata columns near.row) terms) && list_all (meets_rest columns near.row) terms)
    && list_all (meets_bound columns near.distance) terms)
counts_by_levels columns [] near = refl
counts_by_levels columns (term ∷ terms) near =
    let place = place_of columns term.column in
    let met = meets columns near.row term in
    let bounded = is_bounded near.distance term.test in
    ap₂ (λ a b. a && b) (at_levels place met bounded) (counts_by_levels columns terms near)
    ∙ regrouped (not (is_of is_partition place) || met) (not (is_of is_metadata place) || met) (is_on_chunks place || (is_distance place || met)) (not (is_distance place) || bounded)
    (list_all (meets_on is_partition columns near.row) terms) (list_all (meets_on is_metadata columns near.row) terms) (list_all (meets_rest columns near.row) terms) (list_all (meets_bound columns near.distance) terms)

-- ---- levels at which there is nothing to test

elsewhere_or_met : (count distance chunks passed : Bool) → (count || (distance || chunks)) ≡ true → (chunks || (distance || (count || passed))) ≡ true
elsewhere_or_met count distance true passed some = refl
elsewhere_or_met count true false passed some = refl
elsewhere_or_met true false false passed some = refl
elsewhere_or_met false false false passed some = absurd cc

anyway_met : (count distance chunks : Bool) → (chunks || (distance || (count || true))) ≡ true
anyway_met count distance true = refl
anyway_met count true false = refl
anyway_met true false false = refl
anyway_met false false false = refl

-- a term that is not tested row by row is on chunks or on distance, or leaves no row out
met_elsewhere : (place : Place) (test : Test) (value : Value) → is_on_rows place test ≡ false → (is_on_chunks place || (is_distance place || (is_count place || passes test value))) ≡ true
met_elsewhere place (Compare op constant) value none =
    elsewhere_or_met (is_count place) (is_distance place) (is_on_chunks place) (passes (Compare op constant) value) (not_false (is_count place || (is_distance place || is_on_chunks place)) none)
met_elsewhere place (Member values) value none =
    elsewhere_or_met (is_count place) (is_distance place) (is_on_chunks place) (passes (Member values) value) (not_false (is_count place || (is_distance place || is_on_chunks place)) none)
met_elsewhere place (Match query) value none = anyway_met (is_count place) (is_distance place) (is_on_chunks place)

-- where no term is tested row by row
pub rest_met : (columns : List Column) (row : Row) (terms : List Constraint) → some_term columns is_on_rows terms ≡ false → list_all (meets_rest columns row) terms ≡ true
rest_met columns row [] none = refl
rest_met columns row (term ∷ terms) none =
    let place = place_of columns term.column in
    ap₂ (λ a b. a && b)
    (met_elsewhere place term.test (value_at place row) (or_first (is_on_rows place term.test) (some_term columns is_on_rows terms) none))
    (rest_met columns row terms (or_second (is_on_rows place term.test) (some_term columns is_on_rows terms) none))

-- where no term is on distance
pub bounds_met : (columns : List Column) (distance : ℕ) (terms : List Constraint) → some_term columns is_on_distance terms ≡ false → list_all (meets_bound columns distance) terms ≡ true
bounds_met columns distance [] none = refl
bounds_met columns distance (term ∷ terms) none =
    let place = place_of columns term.column in
    ap₂ (λ a b. (not a || is_bounded distance term.test) && b)
    (or_first (is_distance place) (some_term columns is_on_distance terms) none)
    (bounds_met columns distance terms (or_second (is_distance place) (some_term columns is_on_distance terms) none))

-- The first MATCH among terms and their columns is the target of the terms.
use Rattle.std.proofs.Common.{◌≡◌, ℕ, List, [], ◌∷◌, refl, sym, ◌∙◌, map, Option, Some, None, false}
use Rattle.std.specs.Option.{option_map}
use Rattle.std.proofs.lemmas.Bool.{false≢true}
use Rattle.row_model.specs.Answer.{Target, or_later as or_later_one, target_in, target_of}
use Rattle.row_model.specs.Check.{is_nearest}
use Rattle.row_model.specs.ColumnNames.{place_of}
use Rattle.row_model.specs.declared.schema.Column.{Column}
use Rattle.row_model.specs.declared.statement.Constraint.{Constraint}
use Rattle.row_model.specs.declared.statement.Test.{Test}
use Rattle.row_model.specs.declared.statement.Test.TheVariants.{Compare, Member, Match}
use Rattle.row_model.proofs.ShapeLaws.{nearest_with_target}
use Rattle.knn_plan.specs.PlannedColumns.{named_column, term_column}
use Rattle.knn_plan.specs.Plans.{PlannedTarget, or_later, planned_target, target_among, target_on}

first_by_test : (columns : List Column) (name : List ℕ) (test : Test) (later : Option PlannedTarget) (one : Option Target) → later ≡ option_map (planned_target columns) one →
    or_later (target_on (named_column columns name) test) later ≡ option_map (planned_target columns) (or_later_one (target_in (place_of columns name) test) one)
first_by_test columns name (Compare op value) later one same = same
first_by_test columns name (Member values) later one same = same
first_by_test columns name (Match query) later one same = refl

pub target_planned : (columns : List Column) (terms : List Constraint) → target_among terms (map (term_column columns) terms) ≡ option_map (planned_target columns) (target_of columns terms)
target_planned columns [] = refl
target_planned columns (term ∷ terms) =
    first_by_test columns term.column term.test (target_among terms (map (term_column columns) terms)) (target_of columns terms) (target_planned columns terms)

-- without a MATCH there is none
pub no_target : (columns : List Column) (terms : List Constraint) → is_nearest terms ≡ false → target_of columns terms ≡ None
no_target columns terms none = by (target_of columns terms) refl
  where
    by : (target : Option Target) → target_of columns terms ≡ target → target_of columns terms ≡ None
    by None is = is
    by (Some target) is = absurd (false≢true (sym none ∙ nearest_with_target columns terms target is))

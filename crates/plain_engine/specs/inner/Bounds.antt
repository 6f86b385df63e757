-- The terms of a search in two parts: those that look at a row, and the bounds on its distance.
use Rattle.std.specs.Prelude.{ℕ, Bool, not, ◌||◌, List}
use Rattle.std.specs.List.{list_all}
use Rattle.row_model.specs.declared.row.Row.{Row}
use Rattle.row_model.specs.declared.schema.Column.{Column}
use Rattle.row_model.specs.declared.statement.Constraint.{Constraint}
use Rattle.row_model.specs.Answer.{is_bounded}
use Rattle.row_model.specs.ColumnNames.{place_of, is_distance}
use Rattle.row_model.specs.Values.{meets}

-- the row meets the terms that look at it; those on `distance` leave no row out
abbrev pub meets_row_terms : List Column → List Constraint → Row → Bool
meets_row_terms columns terms row = list_all (λ term. is_distance (place_of columns term.column) || meets columns row term) terms

-- the distance meets the terms on `distance`
abbrev pub meets_bounds : List Column → List Constraint → ℕ → Bool
meets_bounds columns terms distance = list_all (λ term. not (is_distance (place_of columns term.column)) || is_bounded distance term.test) terms

-- The terms of a WHERE by where they are tested: on the partition values of a chunk, on its metadata, on each row, and on the distance.
use Rattle.std.specs.Prelude.{ℕ, Bool, not, ◌||◌, List}
use Rattle.row_model.specs.Answer.{is_bounded}
use Rattle.row_model.specs.ColumnNames.{is_distance, is_of, place_of}
use Rattle.row_model.specs.Values.{meets}
use Rattle.row_model.specs.declared.row.Row.{Row}
use Rattle.row_model.specs.declared.schema.Column.{Column}
use Rattle.row_model.specs.declared.schema.Kind.{Kind}
use Rattle.row_model.specs.declared.statement.Constraint.{Constraint}
use Rattle.knn_plan.specs.TermUses.{is_on_chunks}

-- the row meets the term, if that is on a column of the sort
abbrev pub meets_on : (Kind → Bool) → List Column → Row → Constraint → Bool
meets_on sort columns row term = not (is_of sort (place_of columns term.column)) || meets columns row term

-- the row meets the term, if that is tested neither by chunk nor by distance
abbrev pub meets_rest : List Column → Row → Constraint → Bool
meets_rest columns row term = is_on_chunks (place_of columns term.column) || (is_distance (place_of columns term.column) || meets columns row term)

-- the distance meets the term, if that is on distance
abbrev pub meets_bound : List Column → ℕ → Constraint → Bool
meets_bound columns distance term = not (is_distance (place_of columns term.column)) || is_bounded distance term.test

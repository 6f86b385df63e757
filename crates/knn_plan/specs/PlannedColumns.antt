-- What the names of a statement mean, with the number of each column among those that are for the same.
use Rattle.std.specs.Prelude.{ℕ, ◌-◌, List, take}
use Rattle.row_model.specs.ColumnNames.{place_of}
use Rattle.row_model.specs.Schemas.{count_of, has_role, role_of}
use Rattle.row_model.specs.declared.schema.Column.{Column}
use Rattle.row_model.specs.declared.schema.Place.{Place}
use Rattle.row_model.specs.declared.schema.Place.TheVariants.{Declared}
use Rattle.row_model.specs.declared.statement.Constraint.{Constraint}
use Rattle.knn_plan.specs.declared.column.PlannedColumn.{PlannedColumn}

-- how many columns before a declared one are for the same
abbrev pub number_among : List Column → Place → ℕ
number_among columns (Declared number kind) = count_of (has_role (role_of kind)) (take (number - 1) columns)
number_among columns _ = 0

abbrev pub planned_column : List Column → Place → PlannedColumn
planned_column columns place = record { place = place; number = number_among columns place }

-- of a name
abbrev pub named_column : List Column → List ℕ → PlannedColumn
named_column columns name = planned_column columns (place_of columns name)

-- of the name of a term
abbrev pub term_column : List Column → Constraint → PlannedColumn
term_column columns term = named_column columns term.column

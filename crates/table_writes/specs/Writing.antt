-- What a write on one table is told: the bytes of other tables, what the names of an INSERT mean, and the statements whose rows a plan finds.
use Rattle.std.specs.Prelude.{ℕ, List, map}
use Rattle.row_model.specs.Change.{Elsewhere}
use Rattle.row_model.specs.ColumnNames.{place_of}
use Rattle.row_model.specs.declared.schema.Column.{Column}
use Rattle.row_model.specs.declared.schema.Place.{Place}
use Rattle.row_model.specs.declared.statement.Assign.{Assign}
use Rattle.row_model.specs.declared.statement.Delete.{Delete}
use Rattle.row_model.specs.declared.statement.Select.{Select}
use Rattle.row_model.specs.declared.statement.Update.{Update}
use Rattle.table_writes.specs.declared.beside.Beside.{Beside}

abbrev pub elsewhere_of : Beside → Elsewhere
elsewhere_of beside = record { vectors = beside.vectors; sides = beside.sides }

abbrev pub places_named : List Column → List (List ℕ) → List Place
places_named columns names = map (place_of columns) names

-- the UPDATE of the rows that a SELECT is for
abbrev pub update_with : Select → List Assign → Update
update_with select sets = record { table = select.table; sets = sets; where_terms = select.where_terms }

-- the DELETE of the rows that a SELECT is for
abbrev pub delete_with : Select → Delete
delete_with select = record { table = select.table; where_terms = select.where_terms }

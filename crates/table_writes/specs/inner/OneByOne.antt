-- Rows that are changed or removed by their rowids, one after another.
use Rattle.std.specs.Prelude.{ℤ, not, List, [], ◌∷◌, filter, map, if◌then◌else◌}
use Rattle.std.specs.Ordering.{int_eq}
use Rattle.row_model.specs.Change.{set_all}
use Rattle.row_model.specs.declared.row.Row.{Row}
use Rattle.row_model.specs.declared.schema.Column.{Column}
use Rattle.row_model.specs.declared.statement.Assign.{Assign}

-- a step for each rowid
abbrev pub one_by_one : (ℤ → List Row → List Row) → List ℤ → List Row → List Row
one_by_one step [] rows = rows
one_by_one step (rowid ∷ rowids) rows = one_by_one step rowids (step rowid rows)

-- the rows of all other rowids
abbrev pub without : ℤ → List Row → List Row
without rowid rows = filter (λ row. not (int_eq row.rowid rowid)) rows

-- the row with new values
abbrev pub with_sets : List Column → List Assign → Row → Row
with_sets columns sets row = record row { values = set_all columns sets row.values }

-- the row of the rowid has new values
abbrev pub set_one : List Column → List Assign → ℤ → List Row → List Row
set_one columns sets rowid rows = map (λ row. if int_eq row.rowid rowid then with_sets columns sets row else row) rows

-- The rows that meet all terms, one after another.
use Rattle.std.specs.Prelude.{ℤ, Bool, false, List, find, Option, Some, None}
use Rattle.row_model.specs.Values.{meets_all, met}
use Rattle.row_model.specs.declared.row.Row.{Row}
use Rattle.row_model.specs.declared.schema.Column.{Column}
use Rattle.row_model.specs.declared.statement.Constraint.{Constraint}
use Rattle.row_store.specs.StoredRows.{is_above}
use Rattle.shadow_records.specs.PlacedTables.{PlacedRow}

abbrev pub rowid_of : Row → ℤ
rowid_of row = row.rowid

-- of the rows that meet all terms, the first of a rowid above one, or the first of all
abbrev pub next_met : List Column → List Constraint → Option ℤ → List Row → Option Row
next_met columns terms after rows = find (λ row. is_above after row.rowid) (met columns terms rows)

-- the row is there and meets all terms
abbrev pub is_met : List Column → List Constraint → Option PlacedRow → Bool
is_met columns terms None = false
is_met columns terms (Some placed) = meets_all columns terms placed.row

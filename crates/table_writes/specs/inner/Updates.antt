-- An UPDATE, with its new values and the rowids of its rows.
use Rattle.std.specs.Prelude.{◌≡◌, ℤ, List, map, None}
use Rattle.row_model.specs.Check.{check_update}
use Rattle.row_model.specs.Values.{met}
use Rattle.row_model.specs.declared.statement.Assign.{Assign}
use Rattle.row_model.specs.declared.statement.Update.{Update}
use Rattle.shadow_records.specs.PlacedTables.{PlacedTable, plain_rows}
use Rattle.table_query.specs.Met.{rowid_of}

-- the checks take it, these are its new values, and these are the rowids of the rows that meet its terms
pub record IsUpdateOf (table : PlacedTable) (update : Update) (rowids : List ℤ) (sets : List Assign) : Type 0 where
  pub checked : check_update table.schema.columns update ≡ None
  pub sets_are : update.sets ≡ sets
  pub met_are : rowids ≡ map rowid_of (met table.schema.columns update.where_terms (plain_rows table.rows))

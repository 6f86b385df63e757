-- A row that takes a named place of a table.
use Rattle.std.specs.Prelude.{◌≡◌, ◌<◌, ℕ, true, int_le, List, length, Some, None}
use Rattle.vec_base.specs.declared.limits.TheConstants.{MOST_ROWS}
use Rattle.vec_base.specs.declared.value.Value.{Value}
use Rattle.row_model.specs.Valid.{is_valid_row}
use Rattle.row_store.specs.declared.place.RowPlace.{RowPlace}
use Rattle.shadow_records.specs.PlacedTables.{PlacedRow, PlacedTable, first_in, is_place, row_at, row_of}
use Rattle.table_version.specs.Inserting.{partition_in}
use Rattle.table_version.specs.Kept.{id_in}
use Rattle.table_version.specs.Versions.{row_with_id}

-- the row with these values at a place
abbrev pub row_placed : RowPlace → List Value → PlacedRow
row_placed place values = record { row = record { rowid = place.rowid; values = values }; chunk = place.chunk; slot = place.slot }

-- The row can stand beside those of the table: its values are those of a row, its rowid is up to the top, no other row has its rowid, its text id
-- or its place, the rows of its chunk have its partition values, and the rows are not too many.
pub record FitsBeside (table : PlacedTable) (new : PlacedRow) : Type 0 where
  pub valid : is_valid_row table.schema.columns new.row ≡ true
  pub place : is_place table.schema.chunk_size new ≡ true
  pub topped : int_le new.row.rowid table.top ≡ true
  pub few : length table.rows < MOST_ROWS
  pub fresh : row_of table.rows new.row.rowid ≡ None
  pub own_id : (text : List ℕ) → id_in table.schema.columns new.row.values ≡ Some text → row_with_id table.schema.columns text table.rows ≡ None
  pub free : row_at table.rows new.chunk new.slot ≡ None
  pub alike : (first : PlacedRow) → first_in table.rows new.chunk ≡ Some first → partition_in table.schema.columns first ≡ partition_in table.schema.columns new

-- What a new row makes of a table, and what refuses it.
use Rattle.std.specs.Prelude.{◌≡◌, ℕ, ◌+◌, ℤ, Bool, true, false, ◌&&◌, List, [], ◌∷◌, ◌++◌, length, Option}
use Rattle.std.specs.Option.{option_map}
use Rattle.vec_base.specs.declared.refusal.Refusal.{Refusal}
use Rattle.vec_base.specs.declared.value.Value.{Value}
use Rattle.row_model.specs.Change.{assigned, keyed, spent, taken_id, taken_rowid}
use Rattle.row_model.specs.Limits.{over_rows}
use Rattle.row_chunks.specs.Cells.{is_cell_value}
use Rattle.row_model.specs.declared.row.Row.{Row}
use Rattle.row_model.specs.declared.row.Table.{Table}
use Rattle.row_model.specs.declared.schema.Column.{Column}
use Rattle.slot_alloc.specs.Places.{PlaceMap, partition_at, partition_of_chunk}
use Rattle.slot_alloc.specs.SlotRule.{IsPlaceFor, chunk_of, slot_of}
use Rattle.slot_alloc.specs.declared.place.Place.{Place}
use Rattle.shadow_records.specs.PlacedTables.{PlacedRow, PlacedTable, first_in, partition_of, row_at}
use Rattle.table_version.specs.PlacedRows.{table_with}

-- One value for each column, of its type, as wide as the column, and not too long; NULL in auxiliary columns alone. An integer key may have any number: it becomes
-- the rowid.
abbrev pub are_fitting : List Column → List Value → Bool
are_fitting [] [] = true
are_fitting (column ∷ columns) (value ∷ values) = is_cell_value column.kind value && are_fitting columns values
are_fitting [] (value ∷ values) = false
are_fitting (column ∷ columns) [] = false

-- the row that values make, with the rowid that is given or assigned
abbrev pub new_row : Table → Option ℤ → List Value → Row
new_row table rowid values = record { rowid = assigned table.top rowid; values = keyed table.schema.columns (assigned table.top rowid) values }

-- what refuses values, in order: a rowid or text id that is there, rowids that are spent, too many rows
abbrev pub insert_refusals : Table → Option ℤ → List Value → List Refusal
insert_refusals table rowid values =
    taken_rowid table.rows rowid
    ++ taken_id table.schema.columns table.rows (new_row table rowid values).values
    ++ spent table.top rowid
    ++ over_rows (length table.rows + 1)

abbrev pub partition_in : List Column → PlacedRow → List Value
partition_in columns placed = partition_of columns placed.row.values

-- just the places of the rows are used, with their partition values
pub record ArePlacesOf (table : PlacedTable) (places : PlaceMap) : Type 0 where
  pub size : places.size ≡ table.schema.chunk_size
  pub used : (c s : ℕ) → partition_at places c s ≡ option_map (partition_in table.schema.columns) (row_at table.rows c s)
  pub chunks : (c : ℕ) → partition_of_chunk places c ≡ option_map (partition_in table.schema.columns) (first_in table.rows c)

-- the row stands at the place that a row with its partition values takes beside the others
pub record IsInserted (old new : PlacedTable) (row : Row) : Type 0 where
  pub place : Place
  pub places : PlaceMap
  pub are : ArePlacesOf old places
  pub taken : IsPlaceFor places (partition_of old.schema.columns row.values) place
  pub table : new ≡ table_with old (record { row = row; chunk = chunk_of place; slot = slot_of place })

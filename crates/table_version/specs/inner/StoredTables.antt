-- How stored rows give the rows of a table, and what holds of them.
use Rattle.std.specs.Prelude.{◌≡◌, ℕ, ℤ, List, map}
use Rattle.std.specs.List.{AllByRecursion}
use Rattle.vec_base.specs.declared.value.Value.{Value}
use Rattle.row_model.specs.Change.{rows_side_bytes}
use Rattle.row_model.specs.declared.schema.Column.{Column}
use Rattle.row_model.specs.declared.schema.Schema.{Schema}
use Rattle.row_store.specs.StoredRows.{StoredRow}
use Rattle.row_store.specs.Touches.{StoreState}
use Rattle.row_chunks.specs.Cells.{cells_of, kinds_of}
use Rattle.chunk_slots.specs.Slots.{vectors_of}
use Rattle.shadow_records.specs.PlacedTables.{PlacedRow, PlacedTable, IsPlaced, partition_of, plain_rows}
use Rattle.table_version.specs.Kept.{id_in, widths_of}
use Rattle.table_version.specs.Versions.{VersionState}
use Rattle.table_version.specs.inner.Weaving.{KeptValues, woven}

-- what is stored of a row's values
abbrev pub kept_in : StoredRow → KeptValues
kept_in s = record { partition = s.partition; vectors = s.vectors; cells = s.cells }

-- what of a row's values is to be stored
abbrev pub kept_of : List Column → List Value → KeptValues
kept_of columns values = record { partition = partition_of columns values; vectors = vectors_of values; cells = cells_of columns values }

-- the row that is stored so
abbrev pub placed : List Column → StoredRow → PlacedRow
placed columns s = record { row = record { rowid = s.rowid; values = woven columns s.rowid s.id (kept_in s) }; chunk = s.chunk; slot = s.slot }

abbrev pub placed_rows : List Column → List StoredRow → List PlacedRow
placed_rows columns rows = map (placed columns) rows

abbrev pub table_from : List ℕ → Schema → ℤ → List StoredRow → PlacedTable
table_from name schema top rows = record { name = name; schema = schema; top = top; rows = placed_rows schema.columns rows }

-- how a row is stored
abbrev pub stored : List Column → PlacedRow → StoredRow
stored columns p = record {
  rowid = p.row.rowid;
  chunk = p.chunk;
  slot = p.slot;
  id = id_in columns p.row.values;
  partition = partition_of columns p.row.values;
  vectors = vectors_of p.row.values;
  cells = cells_of columns p.row.values;
}

-- what is stored of the row's values is what was stored
abbrev pub GivesAgain : List Column → StoredRow → Type 0
GivesAgain columns s = stored columns (placed columns s) ≡ s

-- the store is that of a table of the schema, with so many bytes of texts and blobs
pub record IsSound (name : List ℕ) (schema : Schema) (top : ℤ) (store : StoreState) (side_bytes : ℕ) : Type 0 where
  pub placed : IsPlaced (table_from name schema top store.rows)
  pub size : store.size ≡ schema.chunk_size
  pub widths : store.widths ≡ widths_of schema.columns
  pub kinds : store.kinds ≡ kinds_of schema.columns
  pub again : AllByRecursion (GivesAgain schema.columns) store.rows
  pub sides : side_bytes ≡ rows_side_bytes (plain_rows (placed_rows schema.columns store.rows))

abbrev pub version_of : List ℕ → Schema → ℤ → StoreState → VersionState
version_of name schema top store = record { table = table_from name schema top store.rows; touches = store.touches }

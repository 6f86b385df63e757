-- Whether a row can stand at a place, by what is stored.
use Rattle.std.specs.Prelude.{◌≡◌, ◌<◌, ◌^◌, ℕ, ℤ, true, int_le, List, length, Some, None}
use Rattle.vec_base.specs.declared.limits.TheConstants.{MOST_ROWS}
use Rattle.vec_base.specs.declared.value.Value.{Value}
use Rattle.row_model.specs.Valid.{are_valid_values}
use Rattle.row_model.specs.declared.schema.Schema.{Schema}
use Rattle.row_store.specs.StoredRows.{StoredRow, first_in, row_at, row_of, row_with_id}
use Rattle.row_store.specs.declared.place.RowPlace.{RowPlace}
use Rattle.table_version.specs.Kept.{id_in}

pub record HasRoom (schema : Schema) (top : ℤ) (rows : List StoredRow) (place : RowPlace) (partition values : List Value) : Type 0 where
  pub valid : are_valid_values schema.columns place.rowid values ≡ true
  pub positive : 0 < place.chunk
  pub narrow : place.chunk < 2 ^ 32
  pub within : place.slot < schema.chunk_size
  pub topped : int_le place.rowid top ≡ true
  pub few : length rows < MOST_ROWS
  pub fresh : row_of place.rowid rows ≡ None
  pub own_id : (text : List ℕ) → id_in schema.columns values ≡ Some text → row_with_id text rows ≡ None
  pub free : row_at rows place.chunk place.slot ≡ None
  pub alike : (first : StoredRow) → first_in rows place.chunk ≡ Some first → first.partition ≡ partition

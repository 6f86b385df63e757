-- A table that is filled from records, row by row.
use Rattle.std.specs.Prelude.{◌≡◌, ◌⊎◌, ℕ, pos, Bool, true, false, ◌&&◌, ◌==◌, List, [], ◌∷◌, Option, Some, is_some}
use Rattle.std.specs.Ordering.{int_eq}
use Rattle.vec_base.specs.declared.shadow.ShadowKey.{ShadowKey}
use Rattle.record_bodies.specs.ReadRows.{body_among, decoded_from}
use Rattle.shadow_records.specs.Keys.{key_of}
use Rattle.shadow_records.specs.PlacedTables.{PlacedRow, PlacedTable, IsPlaced}
use Rattle.shadow_records.specs.Records.{body_of}
use Rattle.shadow_records.specs.declared.kinds.TheConstants.{INFO_RECORDS, ROW_RECORDS}
use Rattle.table_attach.specs.Attaching.{Records, AreRecordsOf}
use Rattle.table_version.specs.PlacedRows.{table_with}
use Rattle.table_version.specs.Placing.{FitsBeside}

-- the key of a row's record
abbrev pub is_row_key : ℕ → ShadowKey → Bool
is_row_key number key = key.table == number && (key.kind == ROW_RECORDS && int_eq key.b (pos 0))

-- the row that a row's record shows, beside the other records
abbrev pub row_shown : ℕ → Records → PlacedTable → ShadowKey × List ℕ → Option PlacedRow
row_shown number records table r = decoded_from (body_among records) number table.schema.columns r.0.a (Some r.1)

-- a row that the record shows takes its place
pub record IsTaken (number : ℕ) (records : Records) (table : PlacedTable) (r : ShadowKey × List ℕ) (new : PlacedTable) : Type 0 where
  pub row : PlacedRow
  pub shown : row_shown number records table r ≡ Some row
  pub fits : FitsBeside table row
  pub table_is : new ≡ table_with table row

-- a row's record adds its row, and another one nothing
pub record Takes (number : ℕ) (records : Records) (table : PlacedTable) (r : ShadowKey × List ℕ) (new : PlacedTable) : Type 0 where
  pub other : is_row_key number r.0 ≡ false → new ≡ table
  pub taken : is_row_key number r.0 ≡ true → IsTaken number records table r new

-- a row's record shows no row that can stand beside the others
pub record Refuses (number : ℕ) (records : Records) (table : PlacedTable) (r : ShadowKey × List ℕ) : Type 0 where
  pub key : is_row_key number r.0 ≡ true
  pub refused : (row : PlacedRow) → row_shown number records table r ≡ Some row → FitsBeside table row → ⊥

-- the records behind are taken one after the other
abbrev pub Fills : ℕ → Records → PlacedTable → Records → PlacedTable → Type 0
Fills number records table [] new = new ≡ table
Fills number records table (r ∷ rest) new = (middle : PlacedTable) × (Takes number records table r middle × Fills number records middle rest new)

-- one of them is refused
abbrev pub Fails : ℕ → Records → PlacedTable → Records → Type 0
Fails number records table [] = ⊥
Fails number records table (r ∷ rest) = Refuses number records table r ⊎ ((middle : PlacedTable) × (Takes number records table r middle × Fails number records middle rest))

-- the record is the table's
pub record IsRecordOf (number : ℕ) (table : PlacedTable) (r : ShadowKey × List ℕ) : Type 0 where
  pub under : r.0.table ≡ number
  pub body : body_of table r.0 ≡ Some r.1

-- a table without rows that has the name, the schema and the top of each table whose records these are
pub record IsOpened (number : ℕ) (records : Records) (table : PlacedTable) : Type 0 where
  pub rows : table.rows ≡ []
  pub info : is_some (body_among records (key_of number INFO_RECORDS (pos 0) (pos 0))) ≡ true
  pub top : is_some (body_among records (key_of number INFO_RECORDS (pos 1) (pos 0))) ≡ true
  pub same_name : (other : PlacedTable) → IsPlaced other → AreRecordsOf number other records → table.name ≡ other.name
  pub same_schema : (other : PlacedTable) → IsPlaced other → AreRecordsOf number other records → table.schema ≡ other.schema
  pub same_top : (other : PlacedTable) → IsPlaced other → AreRecordsOf number other records → table.top ≡ other.top

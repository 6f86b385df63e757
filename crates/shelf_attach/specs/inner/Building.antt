-- Tables that are built one after another, by rising numbers.
use Rattle.std.specs.Prelude.{◌≡◌, ℕ, ◌+◌, ◌-◌, ◌≤◌, List, ◌++◌, Option, Some, None, length, slice_set}
use Rattle.row_model.specs.Change.{rows_side_bytes, rows_vector_bytes, table_named}
use Rattle.row_model.specs.Valid.{tables_side_bytes, tables_vector_bytes}
use Rattle.row_model.specs.declared.row.Named.{Named}
use Rattle.shadow_keeper.specs.Keeping.{tables_of}
use Rattle.shadow_records.specs.PlacedTables.{PlacedTable, IsPlaced, plain_rows}
use Rattle.shadow_records.specs.StandsFor.{StandsFor}
use Rattle.table_attach.specs.Attaching.{AreRecordsOf, Records}
use Rattle.table_version.specs.Versions.{VersionState}
use Rattle.vec_base.specs.declared.limits.TheConstants.{MOST_SIDE_BYTES, MOST_TABLES, MOST_VECTOR_BYTES}
use Rattle.version_shelf.specs.Numbers.{catalog_of}
use Rattle.version_shelf.specs.OnShelf.{OnShelf, shown}
use Rattle.version_shelf.specs.Records.{HoldsRecords}
use Rattle.shelf_attach.specs.declared.built.Built.{Built}
use Rattle.shelf_attach.specs.inner.Grouping.{IsBefore}

abbrev pub versions_in : Built → List (Option VersionState)
versions_in built = shown built.shelf built.held.places

abbrev pub tables_in : Built → List Named
tables_in built = (catalog_of (versions_in built)).tables

-- the catalog stands on the shelf, and its bytes are counted and within the limits
pub record IsCounted (built : Built) : Type 0 where
  pub on : OnShelf built.shelf built.held.places
  pub long : length (versions_in built) ≡ MOST_TABLES
  pub vectors : built.vectors ≡ tables_vector_bytes (tables_in built)
  pub sides : built.sides ≡ tables_side_bytes (tables_in built)
  pub few_vectors : built.vectors ≤ MOST_VECTOR_BYTES
  pub few_sides : built.sides ≤ MOST_SIDE_BYTES

-- ---- one table more

-- no other table has the name, and the bytes of all stay within the limits
pub record HasRoom (tables : List Named) (table : PlacedTable) : Type 0 where
  pub own_name : table_named table.name tables ≡ None
  pub vectors : tables_vector_bytes tables + rows_vector_bytes (plain_rows table.rows) ≤ MOST_VECTOR_BYTES
  pub sides : tables_side_bytes tables + rows_side_bytes (plain_rows table.rows) ≤ MOST_SIDE_BYTES

-- the records are those of the table under the number, and it may stand beside the others
pub record IsNext (tables : List Named) (number : ℕ) (records : Records) (table : PlacedTable) : Type 0 where
  pub low : 1 ≤ number
  pub high : number ≤ MOST_TABLES
  pub placed : IsPlaced table
  pub are : AreRecordsOf number table records
  pub room : HasRoom tables table

-- there is no such table
abbrev pub IsRefused : List Named → ℕ → Records → Type 0
IsRefused tables number records = (table : PlacedTable) → IsNext tables number records table → ⊥

-- the version is put under the number
pub record Puts (old : Built) (number : ℕ) (version : VersionState) (new : Built) : Type 0 where
  pub on : OnShelf new.shelf new.held.places
  pub shows : versions_in new ≡ slice_set (versions_in old) (number - 1) (Some version)
  pub vectors : new.vectors ≡ old.vectors + rows_vector_bytes (plain_rows version.table.rows)
  pub sides : new.sides ≡ old.sides + rows_side_bytes (plain_rows version.table.rows)

pub record Adds (old : Built) (number : ℕ) (records : Records) (new : Built) : Type 0 where
  pub version : VersionState
  pub next : IsNext (tables_in old) number records version.table
  pub puts : Puts old number version new

-- ---- all tables

-- the records in front stand for the tables that are built
pub record IsBuilt (records rest : Records) (built : Built) : Type 0 where
  pub front : Records
  pub splits : records ≡ front ++ rest
  pub before : IsBefore front rest
  pub counted : IsCounted built
  pub stands : StandsFor (tables_of front) (catalog_of (versions_in built))
  pub holds : HoldsRecords (tables_of front) (versions_in built)

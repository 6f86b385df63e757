-- The catalog of the versions that are shown, and what stands under a number.
use Rattle.std.specs.Prelude.{◌≡◌, ℕ, zero, suc, ◌+◌, ◌-◌, ◌<◌, ◌≤◌, Bool, true, false, bytes_eq, List, [], ◌∷◌, length, slice_index_or, slice_set, Option, Some, None}
use Rattle.row_model.specs.declared.row.Catalog.{Catalog}
use Rattle.row_model.specs.declared.row.Named.{Named}
use Rattle.row_model.specs.Change.{add_table, free_number, other_tables, table_named, with_table}
use Rattle.row_model.specs.Valid.{have_own_names}
use Rattle.shadow_records.specs.PlacedTables.{plain}
use Rattle.table_version.specs.Versions.{VersionState}

abbrev pub named_as : ℕ → VersionState → Named
named_as number version = record { number = number; name = version.table.name; table = plain version.table }

-- the tables of the versions, which stand under the numbers from a base on
abbrev pub numbered : ℕ → List (Option VersionState) → List Named
numbered base [] = []
numbered base (None ∷ versions) = numbered (suc base) versions
numbered base (Some version ∷ versions) = named_as base version ∷ numbered (suc base) versions

abbrev pub catalog_of : List (Option VersionState) → Catalog
catalog_of versions = record { tables = numbered 1 versions }

-- the version under a number
abbrev pub under : ℕ → List (Option VersionState) → Option VersionState
under zero versions = None
under (suc n) versions = slice_index_or versions n None

-- the version has the name
abbrev pub is_named_in : List ℕ → Option VersionState → Bool
is_named_in name None = false
is_named_in name (Some version) = bytes_eq version.table.name name

-- The first version of the name stands there, where the numbers begin with the base; and what becomes of the tables where it is another, or goes.
pub record IsNumberFrom (base : ℕ) (name : List ℕ) (versions : List (Option VersionState)) (at : ℕ) : Type 0 where
  pub version : VersionState
  pub within : at < length versions
  pub there : slice_index_or versions at None ≡ Some version
  pub named : bytes_eq version.table.name name ≡ true
  pub found : Named
  pub is : table_named name (numbered base versions) ≡ Some found
  pub same : found.table ≡ plain version.table
  pub put : (new : VersionState) → new.table.name ≡ version.table.name → with_table name (plain new.table) (numbered base versions) ≡ numbered base (slice_set versions at (Some new))
  pub gone : have_own_names (numbered base versions) ≡ true → other_tables name (numbered base versions) ≡ numbered base (slice_set versions at None)

-- the table of the name stands under the number
pub record IsNumber (name : List ℕ) (versions : List (Option VersionState)) (number : ℕ) : Type 0 where
  pub low : 1 ≤ number
  pub high : number ≤ length versions
  pub from : IsNumberFrom 1 name versions (number - 1)

-- the first place without a version is there, and a table goes in under its number
pub record IsFreeFrom (base : ℕ) (versions : List (Option VersionState)) (at : ℕ) : Type 0 where
  pub within : at < length versions
  pub is : free_number base (numbered base versions) ≡ base + at
  pub put : (new : VersionState) → add_table (named_as (base + at) new) (numbered base versions) ≡ numbered base (slice_set versions at (Some new))

-- the number is the least that has no version, and a table goes in under it
pub record IsFree (versions : List (Option VersionState)) (number : ℕ) : Type 0 where
  pub low : 1 ≤ number
  pub high : number ≤ length versions
  pub is : free_number 1 (numbered 1 versions) ≡ number
  pub put : (new : VersionState) → add_table (named_as number new) (numbered 1 versions) ≡ numbered 1 (slice_set versions (number - 1) (Some new))

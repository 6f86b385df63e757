-- The records of the versions that are shown, and batches between two catalogs.
use Rattle.std.specs.Prelude.{◌≡◌, List, Option}
use Rattle.std.specs.FinMap.{get}
use Rattle.std.specs.Option.{option_map}
use Rattle.vec_base.specs.declared.shadow.ShadowKey.{ShadowKey}
use Rattle.vec_base.specs.declared.shadow.Change.{Change}
use Rattle.shadow_records.specs.Batches.{applied, AllApply}
use Rattle.shadow_records.specs.Keys.{Tables}
use Rattle.shadow_records.specs.PlacedTables.{PlacedTable}
use Rattle.shadow_records.specs.StandsFor.{record_in}
use Rattle.table_version.specs.Versions.{VersionState}
use Rattle.version_shelf.specs.Numbers.{under}

abbrev pub table_in : Option VersionState → Option PlacedTable
table_in version = option_map (λ v. v.table) version

-- each record is that of its table's version, and no other is there
abbrev pub HoldsRecords : Tables → List (Option VersionState) → Type 0
HoldsRecords tables versions = (key : ShadowKey) → get tables key ≡ record_in (table_in (under key.table versions)) key

-- a batch that turns the records of one catalog into those of another
abbrev pub TurnsAll : List (Option VersionState) → List (Option VersionState) → List Change → Type 0
TurnsAll older newer changes = (tables : Tables) → HoldsRecords tables older → AllApply changes tables × HoldsRecords (applied changes tables) newer

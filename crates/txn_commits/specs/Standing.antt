-- What kept tables stand for.
use Rattle.std.specs.Prelude.{List, Option, Some, None, ⊤}
use Rattle.std.specs.List.{AllByRecursion}
use Rattle.row_model.specs.declared.row.Catalog.{Catalog}
use Rattle.shadow_records.specs.Keys.{Tables}
use Rattle.shadow_records.specs.PlacedTables.{IsPlaced}
use Rattle.shadow_records.specs.StandsFor.{StandsFor}
use Rattle.table_version.specs.Versions.{VersionState}

abbrev pub IsPlacedIn : Option VersionState → Type 0
IsPlacedIn None = ⊤
IsPlacedIn (Some version) = IsPlaced version.table

-- each version is a valid table whose rows have sound places
abbrev pub ArePlaced : List (Option VersionState) → Type 0
ArePlaced versions = AllByRecursion IsPlacedIn versions

-- what a stop leaves stands for the catalog; what can't be opened stands for none
abbrev pub Stands : Option Tables → Catalog → Type 0
Stands None catalog = ⊥
Stands (Some tables) catalog = StandsFor tables catalog

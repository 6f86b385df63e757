-- The catalog that kept records stand for.
use Rattle.std.specs.Prelude.{◌≡◌, ℕ, ◌<◌, ◌≤◌, ◌==◌, cond, List, [], ◌∷◌, map, Option, Some, None}
use Rattle.std.specs.FinMap.{get}
use Rattle.std.specs.List.{AllByRecursion}
use Rattle.vec_base.specs.declared.shadow.ShadowKey.{ShadowKey}
use Rattle.row_model.specs.Valid.{IsValidCatalog}
use Rattle.row_model.specs.declared.row.Catalog.{Catalog}
use Rattle.row_model.specs.declared.row.Named.{Named}
use Rattle.shadow_records.specs.Keys.{Tables}
use Rattle.shadow_records.specs.PlacedTables.{PlacedTable, IsPlaced, plain}
use Rattle.shadow_records.specs.Records.{body_of}

-- a table with places under its number
pub record NumberedTable : Type 0 where
  pub number : ℕ
  pub table : PlacedTable

abbrev pub named : NumberedTable → Named
named numbered = record { number = numbered.number; name = numbered.table.name; table = plain numbered.table }

-- the catalog without the places
abbrev pub catalog_of : List NumberedTable → Catalog
catalog_of numbered = record { tables = map named numbered }

-- the table of a number
abbrev pub table_of : List NumberedTable → ℕ → Option PlacedTable
table_of [] number = None
table_of (t ∷ ts) number = cond (t.number == number) (Some t.table) (table_of ts number)

abbrev pub record_in : Option PlacedTable → ShadowKey → Option (List ℕ)
record_in None key = None
record_in (Some table) key = body_of table key

-- the body of a key in some tables
abbrev pub record_of : List NumberedTable → ShadowKey → Option (List ℕ)
record_of numbered key = record_in (table_of numbered key.table) key

-- With some places for the rows of the catalog, the records are those of its tables, and no others are there.
pub record StandsFor (tables : Tables) (catalog : Catalog) : Type 0 where
  pub numbered : List NumberedTable
  pub shows : catalog_of numbered ≡ catalog
  pub valid : IsValidCatalog catalog
  pub placed : AllByRecursion (λ t. IsPlaced t.table) numbered
  pub holds : (key : ShadowKey) → get tables key ≡ record_of numbered key

-- The same of the records whose table numbers are at most the last one.
pub record StandUpTo (last : ℕ) (tables : Tables) : Type 0 where
  pub numbered : List NumberedTable
  pub valid : IsValidCatalog (catalog_of numbered)
  pub placed : AllByRecursion (λ t. IsPlaced t.table) numbered
  pub holds : (key : ShadowKey) → key.table ≤ last → get tables key ≡ record_of numbered key

-- The least table number such that the records up to it stand for no catalog; none where there is no such number.
abbrev pub IsDamaged : Tables → Option ℕ → Type 0
IsDamaged tables None = (last : ℕ) → StandUpTo last tables
IsDamaged tables (Some number) = (StandUpTo number tables → ⊥) × ((last : ℕ) → last < number → StandUpTo last tables)

-- Changes that turn the records of a table into those of another one.
use Rattle.std.specs.Prelude.{◌≡◌, ℕ, List, Option}
use Rattle.std.specs.FinMap.{get}
use Rattle.vec_base.specs.declared.shadow.Change.{Change}
use Rattle.vec_base.specs.declared.shadow.ShadowKey.{ShadowKey}
use Rattle.shadow_records.specs.Batches.{applied, AllApply}
use Rattle.shadow_records.specs.Keys.{Tables}
use Rattle.shadow_records.specs.PlacedTables.{PlacedTable}
use Rattle.shadow_records.specs.StandsFor.{record_in}

-- With the changes, the records of the number become those of the newer table, and no other record changes. Where there is no table there are no records.
pub record Turned (number : ℕ) (newer : Option PlacedTable) (changes : List Change) (tables : Tables) : Type 0 where
  pub apply : AllApply changes tables
  pub those : (key : ShadowKey) → key.table ≡ number → get (applied changes tables) key ≡ record_in newer key
  pub others : (key : ShadowKey) → (key.table ≡ number → ⊥) → get (applied changes tables) key ≡ get tables key

-- the records of the number are those of the table, and no others
abbrev pub AreRecords : ℕ → Option PlacedTable → Tables → Type 0
AreRecords number table tables = (key : ShadowKey) → key.table ≡ number → get tables key ≡ record_in table key

-- where the records of the number are the older table's, the changes make them the newer one's
abbrev pub Turns : ℕ → Option PlacedTable → Option PlacedTable → List Change → Type 0
Turns number older newer changes = (tables : Tables) → AreRecords number older tables → Turned number newer changes tables

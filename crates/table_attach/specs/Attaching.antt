-- The table that records with one table number are those of.
use Rattle.std.specs.Prelude.{◌≡◌, ℕ, ◌==◌, cond, List, Option, None}
use Rattle.vec_base.specs.declared.shadow.ShadowKey.{ShadowKey}
use Rattle.record_bodies.specs.ReadRows.{body_among}
use Rattle.shadow_records.specs.PlacedTables.{PlacedTable, IsPlaced}
use Rattle.shadow_records.specs.Records.{body_of}

-- records by rising keys
abbrev pub Records : Type 0
Records = List (ShadowKey × List ℕ)

-- the body that a key has, where it is a key of this table number
abbrev pub body_under : ℕ → PlacedTable → ShadowKey → Option (List ℕ)
body_under number table key = cond (key.table == number) (body_of table key) None

-- the records are those of the table under the number, and no others
abbrev pub AreRecordsOf : ℕ → PlacedTable → Records → Type 0
AreRecordsOf number table records = (key : ShadowKey) → body_among records key ≡ body_under number table key

-- they are the records of no table of this number
abbrev pub StandForNone : ℕ → Records → Type 0
StandForNone number records = (table : PlacedTable) → IsPlaced table → AreRecordsOf number table records → ⊥

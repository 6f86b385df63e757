-- What is known of the records of a keeper.
use Rattle.std.proofs.Common.{◌≡◌, ℕ, Bool, true, false, T, List, [], Option, None, refl, ap, ◌∙◌}
use Rattle.std.specs.FinMap.{get, get-from_entries, entries, entries_sorted, is_sorted}
use Rattle.vec_base.specs.declared.shadow.Change.{Change}
use Rattle.shadow_records.specs.Batches.{applied}
use Rattle.shadow_records.specs.Keys.{Tables, key_cmp}
use Rattle.shadow_records.specs.PlacedTables.{PlacedTable}
use Rattle.shadow_records.proofs.KeyLaws.{key_total}
use Rattle.shadow_keeper.specs.Keeping.{tables_of}
use Rattle.table_changes.specs.Turning.{AreRecords, Turned}

pub none_kept : (number : ℕ) (tables : Tables) → tables ≡ tables_of [] → AreRecords number None tables
none_kept number tables are key own = ap (λ (t : Tables). get t key) are ∙ get-from_entries key_total [] key

pub newer_kept : (number : ℕ) (newer : Option PlacedTable) (changes : List Change) (old new : Tables) → new ≡ applied changes old → Turned number newer changes old → AreRecords number newer new
newer_kept number newer changes old new are turned key own = ap (λ (t : Tables). get t key) are ∙ turned.those key own

told : (b : Bool) → T b → b ≡ true
told true t = refl
told false t = absurd t

pub entries_rise : (tables : Tables) → is_sorted key_cmp (entries tables) ≡ true
entries_rise tables = told (is_sorted key_cmp (entries tables)) (entries_sorted tables)

-- What is known of the records that a keeper has.
use Rattle.std.proofs.Common.{◌≡◌, Bool, true, false, T, refl}
use Rattle.std.specs.FinMap.{entries, entries_sorted, is_sorted}
use Rattle.shadow_records.specs.Keys.{Tables, key_cmp}

told : (b : Bool) → T b → b ≡ true
told true t = refl
told false t = absurd t

pub entries_rise : (tables : Tables) → is_sorted key_cmp (entries tables) ≡ true
entries_rise tables = told (is_sorted key_cmp (entries tables)) (entries_sorted tables)

-- More that is touched.
use Rattle.std.specs.Prelude.{◌≡◌, ℕ, ℤ, true, List, [], Some}
use Rattle.vec_base.specs.declared.value.Value.{Value}
use Rattle.row_index.specs.Entries.{has_rowid}
use Rattle.row_index.specs.declared.entry.Entry.{Entry}
use Rattle.slot_alloc.specs.Places.{PlaceMap, partition_at, is_used}
use Rattle.row_store.specs.Touches.{Touches}

abbrev pub KeepsRows : List Entry → List Entry → Type 0
KeepsRows old new = (i : ℤ) → has_rowid i old ≡ true → has_rowid i new ≡ true

pub record KeepsPlaces (old new : PlaceMap) : Type 0 where
  pub size : new.size ≡ old.size
  pub used : (c s : ℕ) → is_used old c s ≡ true → is_used new c s ≡ true

-- what was touched stays touched
pub record IsWider (old new : Touches) : Type 0 where
  pub rows : KeepsRows old.rows new.rows
  pub places : KeepsPlaces old.places new.places

-- the touched places have no partition values
abbrev pub HavePlainValues : PlaceMap → Type 0
HavePlainValues places = (c s : ℕ) (values : List Value) → partition_at places c s ≡ Some values → values ≡ []

-- Places that no catalog names.
use Rattle.std.specs.Prelude.{◌≡◌, ℕ, ◌<◌, None, length, slice_index_or, ⊤}
use Rattle.version_shelf.specs.declared.held.Held.{Held}
use Rattle.version_shelf.specs.OnShelf.{Names}
use Rattle.txn_sessions.specs.declared.machine.Machine.{Machine}
use Rattle.txn_sessions.specs.declared.session.Origin.{Origin}
use Rattle.txn_sessions.specs.declared.session.Origin.TheVariants.{Kept, Table}
use Rattle.txn_sessions.specs.Moves.{Moved}
use Rattle.txn_sessions.specs.Sound.{InAll}

abbrev pub Misses : ℕ → Held → Type 0
Misses place held = Names place held.places → ⊥

abbrev pub MissesOrigin : ℕ → Origin → Type 0
MissesOrigin place Kept = ⊤
MissesOrigin place (Table held number plan) = Misses place held

-- no catalog of the machine names the place
abbrev pub IsUnnamed : ℕ → Machine → Type 0
IsUnnamed place m = InAll (Misses place) (MissesOrigin place) m.held m.sessions.items

-- no version stands at a place that no catalog names
abbrev pub IsSwept : Machine → Type 0
IsSwept m = (place : ℕ) → IsUnnamed place m → slice_index_or m.shelf place None ≡ None

-- the same for the places below a number
pub record SweepsTo (most : ℕ) (old new : Machine) : Type 0 where
  pub moved : Moved old new
  pub size : length new.shelf ≡ length old.shelf
  pub swept : (place : ℕ) → place < most → IsUnnamed place new → slice_index_or new.shelf place None ≡ None

-- one place is emptied, where no catalog names it
pub record Frees (place : ℕ) (old new : Machine) : Type 0 where
  pub moved : Moved old new
  pub size : length new.shelf ≡ length old.shelf
  pub swept : IsUnnamed place new → slice_index_or new.shelf place None ≡ None
  pub others : (other : ℕ) → slice_index_or old.shelf other None ≡ None → slice_index_or new.shelf other None ≡ None

-- Slots of a shelf that hold the same.
use Rattle.std.specs.Prelude.{◌≡◌, ℕ, List, Option, None, slice_index_or}

-- the same stands on both
abbrev pub Alike : {V : Type 0} → List (Option V) → List (Option V) → Type 0
Alike old new = (place : ℕ) → slice_index_or new place None ≡ slice_index_or old place None

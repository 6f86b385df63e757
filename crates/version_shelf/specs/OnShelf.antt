-- Catalogs on a shelf: places by the numbers of tables, and the versions that stand at them.
use Rattle.std.specs.Prelude.{◌≡◌, ℕ, ◌<◌, List, [], ◌∷◌, length, slice_index_or, map, Option, Some, None, IsSome, ⊤}

-- the version at a place, where one is named
abbrev pub at_place : {V : Type 0} → List (Option V) → Option ℕ → Option V
at_place shelf None = None
at_place shelf (Some place) = slice_index_or shelf place None

-- a place that is named has a version
abbrev pub IsFilled : {V : Type 0} → List (Option V) → Option ℕ → Type 0
IsFilled shelf None = ⊤
IsFilled shelf (Some place) = IsSome (slice_index_or shelf place None)

-- each place that is named has a version
abbrev pub OnShelf : {V : Type 0} → List (Option V) → List (Option ℕ) → Type 0
OnShelf shelf [] = ⊤
OnShelf shelf (place ∷ places) = IsFilled shelf place × OnShelf shelf places

-- the versions that are shown, by number
abbrev pub shown : {V : Type 0} → List (Option V) → List (Option ℕ) → List (Option V)
shown shelf places = map (at_place shelf) places

-- some number has the place
abbrev pub Names : ℕ → List (Option ℕ) → Type 0
Names place places = (n : ℕ) × (n < length places) × (slice_index_or places n None ≡ Some place)

-- each version on the old shelf stands at its place on the new one
abbrev pub Keeps : {V : Type 0} → List (Option V) → List (Option V) → Type 0
Keeps old new = (place : ℕ) → IsSome (slice_index_or old place None) → slice_index_or new place None ≡ slice_index_or old place None

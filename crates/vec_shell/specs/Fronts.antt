-- Beginnings of lists.
use Rattle.std.specs.Prelude.{◌≡◌, ◌≢◌, ℕ, List, [], ◌++◌}

-- a beginning of a list
abbrev pub IsFront : {A : Type 0} → List A → List A → Type 0
IsFront front all = (more : _) × (all ≡ front ++ more)

-- a beginning that is not the whole
abbrev pub IsProperFront : List ℕ → List ℕ → Type 0
IsProperFront front all = (more : List ℕ) × (more ≢ []) × (all ≡ front ++ more)

-- A list of lists as one list.
use Rattle.std.specs.Prelude.{ℕ, ◌+◌, List, [], ◌∷◌, ◌++◌, length}

-- the lists, one behind another
abbrev pub joined : {A : Type 0} → List (List A) → List A
joined [] = []
joined (xs ∷ xss) = xs ++ joined xss

-- how many elements stand up to the end of each list, where so many stand before the first
abbrev pub ends_of : {A : Type 0} → ℕ → List (List A) → List ℕ
ends_of before [] = []
ends_of before (xs ∷ xss) = (before + length xs) ∷ ends_of (before + length xs) xss

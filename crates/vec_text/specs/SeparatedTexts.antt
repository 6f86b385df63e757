-- The texts of lists.
use Rattle.std.specs.Prelude.{ℕ, List, [], ◌∷◌, ◌++◌}
use Rattle.std.specs.List.{flat_map}

-- the texts of the elements behind another one, each with the separator before it
abbrev pub behind : {A : Type 0} → List ℕ → (A → List ℕ) → List A → List ℕ
behind separator text xs = flat_map (λ x. separator ++ text x) xs

-- the texts of the elements, with the separator between them
abbrev pub separated : {A : Type 0} → List ℕ → (A → List ℕ) → List A → List ℕ
separated separator text [] = []
separated separator text (x ∷ xs) = text x ++ behind separator text xs

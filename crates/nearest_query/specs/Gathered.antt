-- What is found of rows at places, place by place.
use Rattle.std.specs.Prelude.{ℕ, zero, suc, Bool, if◌then◌else◌, List, [], ◌∷◌, ◌++◌, Option, Some, None}
use Rattle.shadow_records.specs.PlacedTables.{PlacedRow, row_at}

-- what f gives of the numbers below n, one after another
abbrev pub up_to : {A : Type 0} → (ℕ → List A) → ℕ → List A
up_to f zero = []
up_to f (suc n) = up_to f n ++ f n

-- what is found at a place: the image of a row that passes
abbrev pub found : {A : Type 0} → (PlacedRow → Bool) → (PlacedRow → A) → Option PlacedRow → List A
found test f None = []
found test f (Some placed) = if test placed then f placed ∷ [] else []

-- in a chunk, by slots
abbrev pub found_in : {A : Type 0} → (PlacedRow → Bool) → (PlacedRow → A) → List PlacedRow → ℕ → ℕ → List A
found_in test f rows size chunk = up_to (λ slot. found test f (row_at rows chunk slot)) size

-- in all chunks below n, by chunks
abbrev pub gathered : {A : Type 0} → (PlacedRow → Bool) → (PlacedRow → A) → List PlacedRow → ℕ → ℕ → List A
gathered test f rows size n = up_to (found_in test f rows size) n

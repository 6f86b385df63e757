-- One item of a list changed.
use Rattle.std.specs.Prelude.{◌≡◌, ℕ, zero, suc, List, [], ◌∷◌, slice_get, Some}

-- the list with the item at a place changed; as it is where no item is there
abbrev pub edited_at : {A : Type 0} → (A → A) → ℕ → List A → List A
edited_at change at [] = []
edited_at change zero (x ∷ xs) = change x ∷ xs
edited_at change (suc at) (x ∷ xs) = x ∷ edited_at change at xs

-- what is said of items holds of the item at the place
abbrev pub HoldsAt : {A : Type 0} → (A → Type 0) → ℕ → List A → Type 0
HoldsAt {A} P at xs = (x : A) → slice_get xs at ≡ Some x → P x

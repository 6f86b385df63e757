-- Filters that have gone over the first slots.
use Rattle.std.specs.Prelude.{◌≡◌, ℕ, zero, suc, Bool, ◌&&◌, List, [], ◌∷◌, length}

-- the bits, of which those of the first slots stay set where the values pass
abbrev pub kept_until : {A : Type 0} → ℕ → (A → Bool) → List A → List Bool → List Bool
kept_until zero test values bits = bits
kept_until (suc count) test [] bits = bits
kept_until (suc count) test (value ∷ values) [] = []
kept_until (suc count) test (value ∷ values) (bit ∷ bits) = (bit && test value) ∷ kept_until count test values bits

-- whatever the bits were at first: where those of the slots up to one had been gone through, those up to another one now are
abbrev pub GoesOn : {A : Type 0} → (A → Bool) → List A → ℕ → List Bool → ℕ → List Bool → Type 0
GoesOn test values from before end after = (bits : List Bool) → length bits ≡ length values → before ≡ kept_until from test values bits → after ≡ kept_until end test values bits

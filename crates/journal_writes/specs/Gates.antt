-- Files with a gate behind their first bytes, the front.
use Rattle.std.specs.Prelude.{◌≡◌, ◌≢◌, ◌⊎◌, ℕ, Bool, true, false, List, ◌∷◌, ◌++◌}
use Rattle.journal_writes.specs.declared.adding.Added.{Added}
use Rattle.journal_writes.specs.declared.adding.Added.TheVariants as added

-- a closed gate, and anything behind it
abbrev pub Stands : List ℕ → List ℕ → Type 0
Stands front file = (gate : ℕ) × (rest : List ℕ) × (gate ≢ 1) × (file ≡ front ++ gate ∷ rest)

-- any gate, and these bytes behind it
abbrev pub Gated : List ℕ → List ℕ → List ℕ → Type 0
Gated front tail file = (gate : ℕ) × (file ≡ front ++ gate ∷ tail)

-- between two blocks: a closed gate, or where the gate is uncertain, any gate before these bytes
abbrev pub Rests : Bool → List ℕ → List ℕ → List ℕ → Type 0
Rests false front tail file = Stands front file
Rests true front tail file = Gated front tail file

-- while a block is added: as before, or a closed gate, or any gate before the block
abbrev pub MayShow : Bool → List ℕ → List ℕ → List ℕ → List ℕ → Type 0
MayShow uncertain front tail staged file = Rests uncertain front tail file ⊎ (Stands front file ⊎ ((rest : List ℕ) × Gated front (staged ++ rest) file))

-- of each answer what is said of it
abbrev pub AddedAs : Type 0 → Type 0 → Type 0 → Type 0 → Added → Type 0
AddedAs Done Closing Staging Opening added.Done = Done
AddedAs Done Closing Staging Opening added.Closing = Closing
AddedAs Done Closing Staging Opening added.Staging = Staging
AddedAs Done Closing Staging Opening added.Opening = Opening

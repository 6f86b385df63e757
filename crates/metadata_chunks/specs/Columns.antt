-- Columns with one value for each slot: which slots a filter keeps.
use Rattle.std.specs.Prelude.{pos, Bool, true, false, ◌&&◌, List, [], ◌∷◌}
use Rattle.vec_base.specs.declared.value.Value.{Value}
use Rattle.vec_base.specs.declared.value.Value.TheVariants.{Int}

-- the bits that stay set: those whose slots' values pass
abbrev pub kept : {A : Type 0} → (A → Bool) → List A → List Bool → List Bool
kept test [] bits = []
kept test (value ∷ values) [] = []
kept test (value ∷ values) (bit ∷ bits) = (bit && test value) ∷ kept test values bits

-- false is 0, and true is 1
abbrev pub number_of : Bool → Value
number_of false = Int (pos 0)
number_of true = Int (pos 1)

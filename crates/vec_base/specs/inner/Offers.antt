-- What offers to a list of at most k elements leave.
use Rattle.std.specs.Prelude.{ℕ, Bool, List, [], ◌∷◌, take}
use Rattle.vec_base.specs.Ranks.{placed}

-- the elements put into a list one after another, where after each the first k are kept
abbrev pub offered : {A : Type 0} → (A → A → Bool) → ℕ → List A → List A → List A
offered before k kept [] = kept
offered before k kept (x ∷ xs) = offered before k (take k (placed before x kept)) xs

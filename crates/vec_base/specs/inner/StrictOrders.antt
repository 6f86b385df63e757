-- Strict orders, and lists in them. These are the premises of the laws of ranks.
use Rattle.std.specs.Prelude.{◌≡◌, Bool, true, false, List, [], ◌∷◌, ⊤}
use Rattle.std.specs.List.{AllByRecursion}

-- No element stands before itself. Where x stands before y and y before z, x stands before z.
pub record IsStrictOrder {A : Type 0} (before : A → A → Bool) : Type 0 where
  pub apart : (x : A) → before x x ≡ false
  pub chain : (x y z : A) → before x y ≡ true → before y z ≡ true → before x z ≡ true

-- one of the two stands before the other
abbrev pub AreRanked : {A : Type 0} → (A → A → Bool) → A → A → Type 0
AreRanked before x y = before x y ≡ false → before y x ≡ true

-- of each two elements of the list one stands before the other
abbrev pub AllRanked : {A : Type 0} → (A → A → Bool) → List A → Type 0
AllRanked before [] = ⊤
AllRanked before (x ∷ xs) = AllByRecursion (AreRanked before x) xs × AllRanked before xs

-- each element of the list stands before all that follow
abbrev pub IsInOrder : {A : Type 0} → (A → A → Bool) → List A → Type 0
IsInOrder before [] = ⊤
IsInOrder before (x ∷ xs) = AllByRecursion (λ y. before x y ≡ true) xs × IsInOrder before xs

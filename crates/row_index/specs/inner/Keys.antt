-- Lists of items by strictly rising keys.
use Rattle.std.specs.Prelude.{◌≡◌, ℕ, List, find}
use Rattle.std.specs.declared.cmp.Ordering.{Ordering}
use Rattle.std.specs.declared.cmp.Ordering.TheVariants.{Less, Greater}
use Rattle.std.specs.declared.option.Option.{Option}
use Rattle.std.specs.List.Sorted.{IsPartitionPoint, IsStrictlySortedBy}
use Rattle.std.specs.Ordering.{is_eq}

abbrev pub Rises : {A K : Type 0} → (K → K → Ordering) → (A → K) → List A → Type 0
Rises order key xs = IsStrictlySortedBy (λ x y. order (key x) (key y)) xs

-- the first item of the key
abbrev pub item_of : {A K : Type 0} → (K → K → Ordering) → (A → K) → K → List A → Option A
item_of order key k xs = find (λ x. is_eq (order (key x) k)) xs

-- items before the place compare as less, and those from it on as greater
abbrev pub IsGap : {A : Type 0} → (A → Ordering) → List A → ℕ → Type 0
IsGap compared xs at = IsPartitionPoint (λ x. compared x ≡ Less) (λ x. compared x ≡ Greater) xs at

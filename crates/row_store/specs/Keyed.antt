-- Lists whose elements have keys, by rising keys.
use Rattle.std.specs.Prelude.{ℤ, int_lt, Bool, true, not, ◌&&◌, if◌then◌else◌, List, [], ◌∷◌, filter, find, Option}
use Rattle.std.specs.List.{list_all}
use Rattle.std.specs.Ordering.{int_eq}

-- each key is less than those of all elements behind it
abbrev pub keys_rise : {A : Type 0} → (A → ℤ) → List A → Bool
keys_rise key [] = true
keys_rise key (x ∷ xs) = list_all (λ y. int_lt (key x) (key y)) xs && keys_rise key xs

-- the first element of a key
abbrev pub keyed_by : {A : Type 0} → (A → ℤ) → ℤ → List A → Option A
keyed_by key i xs = find (λ x. int_eq (key x) i) xs

-- the elements with one more, before the first of a greater key
abbrev pub with_keyed : {A : Type 0} → (A → ℤ) → A → List A → List A
with_keyed key new [] = new ∷ []
with_keyed key new (x ∷ xs) = if int_lt (key new) (key x) then new ∷ x ∷ xs else x ∷ with_keyed key new xs

-- the elements of all other keys
abbrev pub without_key : {A : Type 0} → (A → ℤ) → ℤ → List A → List A
without_key key i xs = filter (λ x. not (int_eq (key x) i)) xs

-- Lists by rising keys: what one element more or less leaves of what is found by a key or by a test.
use Rattle.std.proofs.Common.{◌≡◌, ℤ, int_lt, Bool, true, false, cond, if◌then◌else◌, List, [], ◌∷◌, refl, sym, ap, ◌∙◌, Some, None}
use Rattle.std.specs.List.{find}
use Rattle.std.specs.Ordering.{int_eq}
use Rattle.row_store.specs.Keyed.{with_keyed, without_key}

-- an element that a test does not hold of is not found by it
pub found-with_other : {A : Type 0} (key : A → ℤ) (test : A → Bool) (new : A) (xs : List A) → test new ≡ false → find test (with_keyed key new xs) ≡ find test xs
found-with_other key test new [] other = rw other refl
found-with_other key test new (x ∷ xs) other = by_order (int_lt (key new) (key x)) (found-with_other key test new xs other) where
  by_order : (t : Bool) → find test (with_keyed key new xs) ≡ find test xs → find test (if t then new ∷ x ∷ xs else x ∷ with_keyed key new xs) ≡ find test (x ∷ xs)
  by_order true rest = rw other refl
  by_order false rest = ap (cond (test x) (Some x)) rest

-- a new element that is the only one of a test is found by it
pub found-with : {A : Type 0} (key : A → ℤ) (test : A → Bool) (new : A) (xs : List A) → test new ≡ true → find test xs ≡ None → find test (with_keyed key new xs) ≡ Some new
found-with key test new [] is none = rw is refl
found-with {A} key test new (x ∷ xs) is none = by_test (test x) refl none (λ later. found-with key test new xs is later) where
  by_order : test x ≡ false → find test (with_keyed key new xs) ≡ Some new → (t : Bool) → find test (if t then new ∷ x ∷ xs else x ∷ with_keyed key new xs) ≡ Some new
  by_order out rest true = rw is refl
  by_order out rest false = rw out rest

  by_test : (t : Bool) → test x ≡ t → cond t (Some x) (find test xs) ≡ None → (find test xs ≡ None → find test (with_keyed key new xs) ≡ Some new) → find test (with_keyed key new (x ∷ xs)) ≡ Some new
  by_test true e n rest = absurd cc
  by_test false e n rest = by_order e (rest n) (int_lt (key new) (key x))

-- elements of a key that a test does not hold of may go
pub found-without_other : {A : Type 0} (key : A → ℤ) (test : A → Bool) (i : ℤ) (xs : List A) → ((x : A) → int_eq (key x) i ≡ true → test x ≡ false) → find test (without_key key i xs) ≡ find test xs
found-without_other key test i [] others = refl
found-without_other {A} key test i (x ∷ xs) others = by_key (int_eq (key x) i) refl (found-without_other key test i xs others) where
  by_key : (t : Bool) → int_eq (key x) i ≡ t → find test (without_key key i xs) ≡ find test xs → find test (without_key key i (x ∷ xs)) ≡ find test (x ∷ xs)
  by_key true e rest = let out = others x e in rw (e, out) rest
  by_key false e rest = rw e (ap (cond (test x) (Some x)) rest)

-- where a test holds of elements of a key alone, nothing is found without them
pub found-without : {A : Type 0} (key : A → ℤ) (test : A → Bool) (i : ℤ) (xs : List A) → ((x : A) → test x ≡ true → int_eq (key x) i ≡ true) → find test (without_key key i xs) ≡ None
found-without key test i [] only = refl
found-without {A} key test i (x ∷ xs) only = by_key (int_eq (key x) i) refl (found-without key test i xs only) where
  by_test : int_eq (key x) i ≡ false → find test (without_key key i xs) ≡ None → (t : Bool) → test x ≡ t → find test (without_key key i (x ∷ xs)) ≡ None
  by_test e rest true is = let never : true ≡ false = sym (only x is) ∙ e in absurd cc
  by_test e rest false is = rw (e, is) rest

  by_key : (t : Bool) → int_eq (key x) i ≡ t → find test (without_key key i xs) ≡ None → find test (without_key key i (x ∷ xs)) ≡ None
  by_key true e rest = rw e rest
  by_key false e rest = by_test e rest (test x) refl

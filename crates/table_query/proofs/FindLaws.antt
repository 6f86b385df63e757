-- What is known of an element that a test finds.
use Rattle.std.proofs.Common.{◌≡◌, ℤ, Bool, true, false, cond, List, [], ◌∷◌, refl, sym, ap, ◌∙◌, arith, Option, Some, None}
use Rattle.std.specs.Prelude.{int_lt, find}
use Rattle.std.specs.List.{list_all}
use Rattle.std.specs.Option.{option_map}
use Rattle.std.specs.Ordering.{int_eq}
use Rattle.std.proofs.lemmas.Bool.{and_parts, cond-true, cond-false}
use Rattle.std.proofs.lemmas.Int.{ints}
use Rattle.row_store.specs.Keyed.{keys_rise, keyed_by}

-- what holds of all holds of what is found
pub found_such : {A : Type 0} (v t : A → Bool) (xs : List A) (x : A) → list_all v xs ≡ true → find t xs ≡ Some x → v x ≡ true
found_such v t [] x all is = absurd cc
found_such {A} v t (y ∷ ys) x all is = by_test (t y) is (λ later. found_such v t ys x (and_parts _ _ all).1 later) where
  by_test : (b : Bool) → cond b (Some y) (find t ys) ≡ Some x → (find t ys ≡ Some x → v x ≡ true) → v x ≡ true
  by_test true h rest = let y_is : y ≡ x = cc in ap v (sym y_is) ∙ (and_parts _ _ all).0
  by_test false h rest = rest h

pub found_passes : {A : Type 0} (t : A → Bool) (xs : List A) (x : A) → find t xs ≡ Some x → t x ≡ true
found_passes t [] x is = absurd cc
found_passes {A} t (y ∷ ys) x is = by_test (t y) refl is (λ later. found_passes t ys x later) where
  by_test : (b : Bool) → t y ≡ b → cond b (Some y) (find t ys) ≡ Some x → (find t ys ≡ Some x → t x ≡ true) → t x ≡ true
  by_test true e h rest = let y_is : y ≡ x = cc in ap t (sym y_is) ∙ e
  by_test false e h rest = rest h

lt_apart : (a b : ℤ) → int_lt a b ≡ true → int_eq a b ≡ false
lt_apart a b h = grind (arith, ints)

eq_own : (a : ℤ) → int_eq a a ≡ true
eq_own a = grind (arith, ints)

-- what any test finds is found by its key
pub found_by_key : {A : Type 0} (key : A → ℤ) (t : A → Bool) (xs : List A) (x : A) → keys_rise key xs ≡ true → find t xs ≡ Some x → keyed_by key (key x) xs ≡ Some x
found_by_key key t [] x rise is = absurd cc
found_by_key {A} key t (y ∷ ys) x rise is = by_test (t y) is (λ later. found_by_key key t ys x (and_parts _ _ rise).1 later) where
  by_test : (b : Bool) → cond b (Some y) (find t ys) ≡ Some x → (find t ys ≡ Some x → keyed_by key (key x) ys ≡ Some x) → keyed_by key (key x) (y ∷ ys) ≡ Some x
  by_test true h rest = let y_is : y ≡ x = cc in cond-true _ _ _ (ap (λ z. int_eq (key z) (key x)) y_is ∙ eq_own (key x)) ∙ ap Some y_is
  by_test false h rest = cond-false _ _ _ (lt_apart (key y) (key x) (found_such (λ z. int_lt (key y) (key z)) t ys x (and_parts _ _ rise).0 h)) ∙ rest h

pub mapped_some : {A B : Type 0} (f : A → B) (o : Option A) (b : B) → option_map f o ≡ Some b → (x : A) × ((o ≡ Some x) × (f x ≡ b))
mapped_some f None b is = absurd cc
mapped_some f (Some x) b is = let same : f x ≡ b = cc in (x, (refl, same))

pub mapped_none : {A B : Type 0} (f : A → B) (o : Option A) → option_map f o ≡ None → o ≡ None
mapped_none f None is = refl
mapped_none f (Some x) is = absurd cc

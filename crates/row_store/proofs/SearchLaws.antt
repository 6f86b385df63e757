-- What a test finds among what is picked out of a list, from what a test of the elements finds there.
use Rattle.std.proofs.Common.{◌≡◌, ℕ, ℤ, zero, suc, ◌<◌, int_lt, Bool, true, false, cond, List, [], ◌∷◌, length, refl, sym, ap, ◌∙◌, arith, Some, None}
use Rattle.std.specs.Prelude.{◌||◌, slice_index_or}
use Rattle.std.specs.List.{AllByRecursion, AllPairs, filter_map, find, list_all, list_any, cons_option}
use Rattle.std.specs.Option.{option_map}
use Rattle.std.specs.Ordering.{int_eq}
use Rattle.std.specs.declared.option.Option.{Option}
use Rattle.std.proofs.lemmas.Bool.{and_parts, cond-true, cond-false}
use Rattle.std.proofs.lemmas.Int.{ints}
use Rattle.row_store.specs.Keyed.{keys_rise, keyed_by}
use Rattle.row_store.proofs.PickLaws.{KeepsKeys, picked-above}

-- a test of what is picked holds of it where another holds of the element
abbrev pub IsSameTest : {E R : Type 0} → (E → Option R) → (E → Bool) → (R → Bool) → Type 0
IsSameTest {E} {R} pick t u = (x : E) (r : R) → pick x ≡ Some r → u r ≡ t x

pub find-picked_nowhere : {E R : Type 0} (pick : E → Option R) (t : E → Bool) (u : R → Bool) (xs : List E) → IsSameTest pick t u → find t xs ≡ None → find u (filter_map pick xs) ≡ None
find-picked_nowhere pick t u [] same none = refl
find-picked_nowhere {E} {R} pick t u (x ∷ xs) same none = by_test (t x) refl none (λ later. find-picked_nowhere pick t u xs same later) where
  by_pick : t x ≡ false → find u (filter_map pick xs) ≡ None → (o : Option R) → pick x ≡ o → find u (cons_option o (filter_map pick xs)) ≡ None
  by_pick e rest None is = rest
  by_pick e rest (Some r) is = cond-false _ _ _ (same x r is ∙ e) ∙ rest

  by_test : (b : Bool) → t x ≡ b → cond b (Some x) (find t xs) ≡ None → (find t xs ≡ None → find u (filter_map pick xs) ≡ None) → find u (filter_map pick (x ∷ xs)) ≡ None
  by_test true e h rest = absurd cc
  by_test false e h rest = by_pick e (rest h) (pick x) refl

pub find-picked_first : {E R : Type 0} (pick : E → Option R) (t : E → Bool) (u : R → Bool) (xs : List E) (y : E) (r : R) → IsSameTest pick t u → find t xs ≡ Some y → pick y ≡ Some r → find u (filter_map pick xs) ≡ Some r
find-picked_first pick t u [] y r same is gives = absurd cc
find-picked_first {E} {R} pick t u (x ∷ xs) y r same is gives = by_test (t x) refl is (λ later. find-picked_first pick t u xs y r same later gives) where
  by_pick : t x ≡ false → find u (filter_map pick xs) ≡ Some r → (o : Option R) → pick x ≡ o → find u (cons_option o (filter_map pick xs)) ≡ Some r
  by_pick e rest None is = rest
  by_pick e rest (Some q) is = cond-false _ _ _ (same x q is ∙ e) ∙ rest

  by_test : (b : Bool) → t x ≡ b → cond b (Some x) (find t xs) ≡ Some y → (find t xs ≡ Some y → find u (filter_map pick xs) ≡ Some r) → find u (filter_map pick (x ∷ xs)) ≡ Some r
  by_test true e h rest =
      let x_is : x ≡ y = cc in
      let here : pick x ≡ Some r = ap pick x_is ∙ gives in
      rw here (cond-true _ _ _ (same x r here ∙ e))
  by_test false e h rest = by_pick e (rest h) (pick x) refl

-- what holds of all holds of what is found
pub found-all : {A : Type 0} (v t : A → Bool) (xs : List A) (x : A) → list_all v xs ≡ true → find t xs ≡ Some x → v x ≡ true
found-all v t [] x all is = absurd cc
found-all {A} v t (y ∷ ys) x all is = by_test (t y) is (λ later. found-all v t ys x (and_parts _ _ all).1 later) where
  by_test : (b : Bool) → cond b (Some y) (find t ys) ≡ Some x → (find t ys ≡ Some x → v x ≡ true) → v x ≡ true
  by_test true h rest = let y_is : y ≡ x = cc in ap v (sym y_is) ∙ (and_parts _ _ all).0
  by_test false h rest = rest h

pub found-test : {A : Type 0} (t : A → Bool) (xs : List A) (x : A) → find t xs ≡ Some x → t x ≡ true
found-test t [] x is = absurd cc
found-test {A} t (y ∷ ys) x is = by_test (t y) refl is (λ later. found-test t ys x later) where
  by_test : (b : Bool) → t y ≡ b → cond b (Some y) (find t ys) ≡ Some x → (find t ys ≡ Some x → t x ≡ true) → t x ≡ true
  by_test true e h rest = let y_is : y ≡ x = cc in ap t (sym y_is) ∙ e
  by_test false e h rest = rest h

lt_apart : (a b : ℤ) → int_lt a b ≡ true → int_eq a b ≡ false
lt_apart a b h = grind (arith, ints)

lt_behind : (a b : ℤ) → int_lt a b ≡ true → int_lt b a ≡ false
lt_behind a b h = grind (arith, ints)

eq_own : (a : ℤ) → int_eq a a ≡ true
eq_own a = grind (arith, ints)

-- what any test finds is found by its key
pub found-keyed : {A : Type 0} (key : A → ℤ) (t : A → Bool) (xs : List A) (x : A) → keys_rise key xs ≡ true → find t xs ≡ Some x → keyed_by key (key x) xs ≡ Some x
found-keyed key t [] x rise is = absurd cc
found-keyed {A} key t (y ∷ ys) x rise is = by_test (t y) is (λ later. found-keyed key t ys x (and_parts _ _ rise).1 later) where
  by_test : (b : Bool) → cond b (Some y) (find t ys) ≡ Some x → (find t ys ≡ Some x → keyed_by key (key x) ys ≡ Some x) → keyed_by key (key x) (y ∷ ys) ≡ Some x
  by_test true h rest = let y_is : y ≡ x = cc in cond-true _ _ _ (ap (λ z. int_eq (key z) (key x)) y_is ∙ eq_own (key x)) ∙ ap Some y_is
  by_test false h rest = cond-false _ _ _ (lt_apart (key y) (key x) (found-all (λ z. int_lt (key y) (key z)) t ys x (and_parts _ _ rise).0 h)) ∙ rest h

-- two tests find the same where both hold of all
find-both : {R : Type 0} (u v : R → Bool) (rs : List R) → ((r : R) → v r ≡ true → u r ≡ true) → list_all v rs ≡ true → find u rs ≡ find v rs
find-both u v [] implies all = refl
find-both u v (r ∷ rs) implies all = let here = (and_parts _ _ all).0 in cond-true _ _ _ (implies r here) ∙ sym (cond-true _ _ _ here)

-- Where the first element that a test of keys holds of gives nothing, what is found is above it.
pub find-picked_above : {E R : Type 0} (key : E → ℤ) (name : R → ℤ) (pick : E → Option R) (t : ℤ → Bool) (xs : List E) (x : E) → KeepsKeys key name pick → keys_rise key xs ≡ true → ((a b : ℤ) → int_lt a b ≡ true → t a ≡ true → t b ≡ true) →
    find (λ y. t (key y)) xs ≡ Some x → pick x ≡ None → find (λ r. t (name r)) (filter_map pick xs) ≡ find (λ r. int_lt (key x) (name r)) (filter_map pick xs)
find-picked_above key name pick t [] x keeps rise up is none = absurd cc
find-picked_above {E} {R} key name pick t (y ∷ ys) x keeps rise up is none =
    by_test (t (key y)) refl is (λ later. find-picked_above key name pick t ys x keeps (and_parts _ _ rise).1 up later none)
  where
    by_pick : t (key y) ≡ false → int_lt (key x) (key y) ≡ false → find (λ r. t (name r)) (filter_map pick ys) ≡ find (λ r. int_lt (key x) (name r)) (filter_map pick ys) → (o : Option R) → pick y ≡ o →
        find (λ r. t (name r)) (cons_option o (filter_map pick ys)) ≡ find (λ r. int_lt (key x) (name r)) (cons_option o (filter_map pick ys))
    by_pick e f rest None p = rest
    by_pick e f rest (Some r) p =
        let k = keeps y r p in
        cond-false _ _ _ (ap t k ∙ e) ∙ rest ∙ sym (cond-false _ _ _ (ap (int_lt (key x)) k ∙ f))

    by_test : (b : Bool) → t (key y) ≡ b → cond b (Some y) (find (λ z. t (key z)) ys) ≡ Some x → (find (λ z. t (key z)) ys ≡ Some x → find (λ r. t (name r)) (filter_map pick ys) ≡ find (λ r. int_lt (key x) (name r)) (filter_map pick ys)) →
        find (λ r. t (name r)) (filter_map pick (y ∷ ys)) ≡ find (λ r. int_lt (key x) (name r)) (filter_map pick (y ∷ ys))
    by_test true e h rest =
        let y_is : y ≡ x = cc in
        let gone : pick y ≡ None = ap pick y_is ∙ none in
        let here : t (key x) ≡ true = ap (λ z. t (key z)) (sym y_is) ∙ e in
        let above : list_all (λ r. int_lt (key x) (name r)) (filter_map pick ys) ≡ true = picked-above key name pick (key x) ys keeps (ap (λ z. list_all (λ w. int_lt (key z) (key w)) ys) (sym y_is) ∙ (and_parts _ _ rise).0) in
        rw gone (find-both (λ r. t (name r)) (λ r. int_lt (key x) (name r)) (filter_map pick ys) (λ r lt. up (key x) (name r) lt here) above)
    by_test false e h rest = by_pick e (lt_behind (key y) (key x) (found-all (λ z. int_lt (key y) (key z)) (λ z. t (key z)) ys x (and_parts _ _ rise).0 h)) (rest h) (pick y) refl

-- what a test of some mapped thing finds
pub mapped-some : {A B : Type 0} (f : A → B) (o : Option A) (b : B) → option_map f o ≡ Some b → (x : A) × ((o ≡ Some x) × (f x ≡ b))
mapped-some f None b is = absurd cc
mapped-some f (Some x) b is = let same : f x ≡ b = cc in (x, (refl, same))

pub mapped-none : {A B : Type 0} (f : A → B) (o : Option A) → option_map f o ≡ None → o ≡ None
mapped-none f None is = refl
mapped-none f (Some x) is = absurd cc

pub any-none : {A : Type 0} (t : A → Bool) (xs : List A) → list_any t xs ≡ false → find t xs ≡ None
any-none t [] h = refl
any-none {A} t (x ∷ xs) h = by_test (t x) refl h (λ later. any-none t xs later) where
  by_test : (b : Bool) → t x ≡ b → (b || list_any t xs) ≡ false → (list_any t xs ≡ false → find t xs ≡ None) → find t (x ∷ xs) ≡ None
  by_test true e never rest = absurd cc
  by_test false e later rest = cond-false _ _ _ e ∙ rest later

-- of two elements of rising keys the later one has the greater key
pub pairs-by_key : {A : Type 0} (key : A → ℤ) (P : A → Type 0) (R : A → A → Type 0) (xs : List A) → keys_rise key xs ≡ true → AllByRecursion P xs → ((x y : A) → P x → P y → int_lt (key x) (key y) ≡ true → R x y) → AllPairs R xs
pairs-by_key key P R [] rise all each i j d lt within = absurd (omega (arith, within))
pairs-by_key key P R (x ∷ xs) rise all each zero zero d lt within = absurd (omega (arith, lt))
pairs-by_key {A} key P R (x ∷ xs) rise all each zero (suc j) d lt within = later xs j (and_parts _ _ rise).0 all.1 (omega arith) where
  later : (ys : List A) (k : ℕ) → list_all (λ y. int_lt (key x) (key y)) ys ≡ true → AllByRecursion P ys → k < length ys → R x (slice_index_or ys k d)
  later [] k above rest lt = absurd (omega (arith, lt))
  later (y ∷ ys) zero above rest lt = each x y all.0 rest.0 (and_parts _ _ above).0
  later (y ∷ ys) (suc k) above rest lt = later ys k (and_parts _ _ above).1 rest.1 (omega arith)
pairs-by_key key P R (x ∷ xs) rise all each (suc i) zero d lt within = absurd (omega (arith, lt))
pairs-by_key key P R (x ∷ xs) rise all each (suc i) (suc j) d lt within = pairs-by_key key P R xs (and_parts _ _ rise).1 all.1 each i j d (omega arith) (omega arith)

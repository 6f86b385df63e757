-- What is picked out of a list by rising keys, each element giving one of its key or none: when one element more or less gives something.
use Rattle.std.proofs.Common.{◌≡◌, ℤ, int_lt, Bool, true, false, cond, if◌then◌else◌, List, [], ◌∷◌, refl, sym, ap, ◌∙◌, arith, Some, None}
use Rattle.std.specs.List.{filter_map, list_all, cons_option}
use Rattle.std.specs.Option.{option_and_then}
use Rattle.std.specs.Ordering.{int_eq}
use Rattle.std.specs.declared.option.Option.{Option}
use Rattle.std.proofs.lemmas.Bool.{and_parts, and_from, cond-true, cond-false}
use Rattle.std.proofs.lemmas.Int.{ints}
use Rattle.row_store.specs.Keyed.{keys_rise, keyed_by, with_keyed, without_key}

-- what an element gives has its key
abbrev pub KeepsKeys : {E R : Type 0} → (E → ℤ) → (R → ℤ) → (E → Option R) → Type 0
KeepsKeys {E} {R} key name pick = (x : E) (r : R) → pick x ≡ Some r → name r ≡ key x

lt_not_eq : (a b i : ℤ) → int_lt a b ≡ true → int_eq a i ≡ true → int_eq b i ≡ false
lt_not_eq a b i h k = grind (arith, ints)

lt_not_back : (a b : ℤ) → int_lt a b ≡ true → int_lt b a ≡ false
lt_not_back a b h = grind (arith, ints)

-- ---- lists by keys

-- an element of the key stands among those behind one of a lesser key
pub keyed-above : {A : Type 0} (key : A → ℤ) (b : ℤ) (i : ℤ) (xs : List A) (x : A) → list_all (λ y. int_lt b (key y)) xs ≡ true → keyed_by key i xs ≡ Some x → int_lt b (key x) ≡ true
keyed-above key b i [] x above there = absurd cc
keyed-above key b i (y ∷ ys) x above there = by_test (int_eq (key y) i) there (λ later. keyed-above key b i ys x (and_parts _ _ above).1 later) where
  by_test : (t : Bool) → cond t (Some y) (keyed_by key i ys) ≡ Some x → (keyed_by key i ys ≡ Some x → int_lt b (key x) ≡ true) → int_lt b (key x) ≡ true
  by_test true same rest = let is : y ≡ x = cc in ap (λ z. int_lt b (key z)) (sym is) ∙ (and_parts _ _ above).0
  by_test false later rest = rest later

pub keyed-key : {A : Type 0} (key : A → ℤ) (i : ℤ) (xs : List A) (x : A) → keyed_by key i xs ≡ Some x → int_eq (key x) i ≡ true
keyed-key key i [] x there = absurd cc
keyed-key key i (y ∷ ys) x there = by_test (int_eq (key y) i) refl there (λ later. keyed-key key i ys x later) where
  by_test : (t : Bool) → int_eq (key y) i ≡ t → cond t (Some y) (keyed_by key i ys) ≡ Some x → (keyed_by key i ys ≡ Some x → int_eq (key x) i ≡ true) → int_eq (key x) i ≡ true
  by_test true e same rest = let is : y ≡ x = cc in ap (λ z. int_eq (key z) i) (sym is) ∙ e
  by_test false e later rest = rest later

-- an element below all others goes to the front
pub with-front : {A : Type 0} (key : A → ℤ) (new : A) (xs : List A) → list_all (λ y. int_lt (key new) (key y)) xs ≡ true → with_keyed key new xs ≡ new ∷ xs
with-front key new [] below = refl
with-front key new (x ∷ xs) below =
    let lower : int_lt (key new) (key x) ≡ true = (and_parts _ _ below).0 in
    rw lower refl

-- ---- picking

-- what is picked out of elements above a key is above it
pub picked-above : {E R : Type 0} (key : E → ℤ) (name : R → ℤ) (pick : E → Option R) (b : ℤ) (xs : List E) → KeepsKeys key name pick → list_all (λ y. int_lt b (key y)) xs ≡ true → list_all (λ r. int_lt b (name r)) (filter_map pick xs) ≡ true
picked-above key name pick b [] keeps above = refl
picked-above {E} {R} key name pick b (x ∷ xs) keeps above = by_pick (pick x) refl (picked-above key name pick b xs keeps (and_parts _ _ above).1) where
  by_pick : (o : Option R) → pick x ≡ o → list_all (λ r. int_lt b (name r)) (filter_map pick xs) ≡ true → list_all (λ r. int_lt b (name r)) (cons_option o (filter_map pick xs)) ≡ true
  by_pick None e rest = rest
  by_pick (Some r) e rest = and_from _ _ (ap (int_lt b) (keeps x r e) ∙ (and_parts _ _ above).0) rest

-- two ways to pick that agree but at one key agree on elements above it
pub picked-same_above : {E R : Type 0} (key : E → ℤ) (f g : E → Option R) (a i : ℤ) (xs : List E) → ((x : E) → int_eq (key x) i ≡ false → f x ≡ g x) → int_eq a i ≡ true → list_all (λ y. int_lt a (key y)) xs ≡ true → filter_map f xs ≡ filter_map g xs
picked-same_above key f g a i [] same here above = refl
picked-same_above key f g a i (x ∷ xs) same here above =
    let one = same x (lt_not_eq a (key x) i (and_parts _ _ above).0 here) in
    rw one (ap (cons_option (g x)) (picked-same_above key f g a i xs same here (and_parts _ _ above).1))

-- an element that gives nothing may come or go
pub picked-with_none : {E R : Type 0} (key : E → ℤ) (pick : E → Option R) (new : E) (xs : List E) → pick new ≡ None → filter_map pick (with_keyed key new xs) ≡ filter_map pick xs
picked-with_none key pick new [] none = rw none refl
picked-with_none key pick new (x ∷ xs) none = by_test (int_lt (key new) (key x)) (picked-with_none key pick new xs none) where
  by_test : (t : Bool) → filter_map pick (with_keyed key new xs) ≡ filter_map pick xs → filter_map pick (if t then new ∷ x ∷ xs else x ∷ with_keyed key new xs) ≡ filter_map pick (x ∷ xs)
  by_test true rest = rw none refl
  by_test false rest = ap (cons_option (pick x)) rest

without-above : {A : Type 0} (key : A → ℤ) (a i : ℤ) (xs : List A) → list_all (λ y. int_lt a (key y)) xs ≡ true → int_eq a i ≡ true → without_key key i xs ≡ xs
without-above key a i [] above e = refl
without-above key a i (y ∷ ys) above e =
    let other : int_eq (key y) i ≡ false = lt_not_eq a (key y) i (and_parts _ _ above).0 e in
    rw other (ap (λ l. y ∷ l) (without-above key a i ys (and_parts _ _ above).1 e))

pub picked-without_none : {E R : Type 0} (key : E → ℤ) (pick : E → Option R) (i : ℤ) (xs : List E) → ((x : E) → keyed_by key i xs ≡ Some x → pick x ≡ None) → keys_rise key xs ≡ true → filter_map pick (without_key key i xs) ≡ filter_map pick xs
picked-without_none key pick i [] none rise = refl
picked-without_none {E} {R} key pick i (x ∷ xs) none rise = by_test (int_eq (key x) i) refl (λ later. picked-without_none key pick i xs later (and_parts _ _ rise).1) where
  by_test : (t : Bool) → int_eq (key x) i ≡ t → (((y : E) → keyed_by key i xs ≡ Some y → pick y ≡ None) → filter_map pick (without_key key i xs) ≡ filter_map pick xs) → filter_map pick (without_key key i (x ∷ xs)) ≡ filter_map pick (x ∷ xs)
  by_test true e rest =
      let gone : pick x ≡ None = none x (cond-true _ _ _ e) in
      rw (e, gone) (ap (filter_map pick) (without-above key (key x) i xs (and_parts _ _ rise).0 e))
  by_test false e rest =
      let later : (y : E) → keyed_by key i xs ≡ Some y → pick y ≡ None = λ y there. none y (cond-false _ _ _ e ∙ there) in
      rw e (ap (cons_option (pick x)) (rest later))

-- one element gives something that gave nothing before
pub picked-more : {E R : Type 0} (key : E → ℤ) (name : R → ℤ) (f g : E → Option R) (i : ℤ) (xs : List E) (e : E) (r : R) → KeepsKeys key name f → KeepsKeys key name g → keys_rise key xs ≡ true →
    keyed_by key i xs ≡ Some e → f e ≡ None → g e ≡ Some r → ((x : E) → int_eq (key x) i ≡ false → f x ≡ g x) → filter_map g xs ≡ with_keyed name r (filter_map f xs)
picked-more key name f g i [] e r keeps keeps' rise there none some same = absurd cc
picked-more {E} {R} key name f g i (x ∷ xs) e r keeps keeps' rise there none some same =
    by_test (int_eq (key x) i) refl there (λ found. picked-more key name f g i xs e r keeps keeps' (and_parts _ _ rise).1 found none some same)
  where
    by_pick : int_eq (key x) i ≡ false → keyed_by key i xs ≡ Some e → filter_map g xs ≡ with_keyed name r (filter_map f xs) → (o : Option R) → f x ≡ o → filter_map g (x ∷ xs) ≡ with_keyed name r (filter_map f (x ∷ xs))
    by_pick other found rest None is = let g_is : g x ≡ None = sym (same x other) ∙ is in rw (is, g_is) rest
    by_pick other found rest (Some q) is =
        let g_is : g x ≡ Some q = sym (same x other) ∙ is in
        let before : int_lt (key x) (key e) ≡ true = keyed-above key (key x) i xs e (and_parts _ _ rise).0 found in
        let behind : int_lt (name r) (name q) ≡ false = rw (keeps x q is, keeps' e r some) (lt_not_back (key x) (key e) before) in
        rw (is, g_is, behind) (ap (λ l. q ∷ l) rest)

    by_test : (t : Bool) → int_eq (key x) i ≡ t → cond t (Some x) (keyed_by key i xs) ≡ Some e → (keyed_by key i xs ≡ Some e → filter_map g xs ≡ with_keyed name r (filter_map f xs)) → filter_map g (x ∷ xs) ≡ with_keyed name r (filter_map f (x ∷ xs))
    by_test true here found rest =
        let is : x ≡ e = cc in
        let f_none : f x ≡ None = ap f is ∙ none in
        let g_some : g x ≡ Some r = ap g is ∙ some in
        let above = (and_parts _ _ rise).0 in
        let below : list_all (λ q. int_lt (name r) (name q)) (filter_map f xs) ≡ true = rw (keeps' x r g_some) (picked-above key name f (key x) xs keeps above) in
        rw (f_none, g_some) (ap (λ l. r ∷ l) (sym (picked-same_above key f g (key x) i xs same here above)) ∙ sym (with-front name r (filter_map f xs) below))
    by_test false other found rest = by_pick other found (rest found) (f x) refl

-- one element gives nothing more
pub picked-less : {E R : Type 0} (key : E → ℤ) (name : R → ℤ) (f g : E → Option R) (i : ℤ) (xs : List E) → KeepsKeys key name f → ((x : E) → int_eq (key x) i ≡ true → g x ≡ None) → ((x : E) → int_eq (key x) i ≡ false → f x ≡ g x) → filter_map g xs ≡ without_key name i (filter_map f xs)
picked-less key name f g i [] keeps gone same = refl
picked-less {E} {R} key name f g i (x ∷ xs) keeps gone same = by_test (int_eq (key x) i) refl (picked-less key name f g i xs keeps gone same) where
  out : int_eq (key x) i ≡ true → filter_map g xs ≡ without_key name i (filter_map f xs) → (o : Option R) → f x ≡ o → filter_map g (x ∷ xs) ≡ without_key name i (filter_map f (x ∷ xs))
  out here rest None is = let none = gone x here in rw (is, none) rest
  out here rest (Some q) is =
      let none = gone x here in
      let left_out : int_eq (name q) i ≡ true = ap (λ n. int_eq n i) (keeps x q is) ∙ here in
      rw (is, none, left_out) rest

  stays : int_eq (key x) i ≡ false → filter_map g xs ≡ without_key name i (filter_map f xs) → (o : Option R) → f x ≡ o → filter_map g (x ∷ xs) ≡ without_key name i (filter_map f (x ∷ xs))
  stays other rest None is = let g_is : g x ≡ None = sym (same x other) ∙ is in rw (is, g_is) rest
  stays other rest (Some q) is =
      let g_is : g x ≡ Some q = sym (same x other) ∙ is in
      let kept : int_eq (name q) i ≡ false = ap (λ n. int_eq n i) (keeps x q is) ∙ other in
      rw (is, g_is, kept) (ap (λ l. q ∷ l) rest)

  by_test : (t : Bool) → int_eq (key x) i ≡ t → filter_map g xs ≡ without_key name i (filter_map f xs) → filter_map g (x ∷ xs) ≡ without_key name i (filter_map f (x ∷ xs))
  by_test true here rest = out here rest (f x) refl
  by_test false other rest = stays other rest (f x) refl

nowhere_above : {A : Type 0} (key : A → ℤ) (a i : ℤ) (xs : List A) → list_all (λ y. int_lt a (key y)) xs ≡ true → int_eq a i ≡ true → keyed_by key i xs ≡ None
nowhere_above key a i [] above here = refl
nowhere_above key a i (y ∷ ys) above here =
    let other : int_eq (key y) i ≡ false = lt_not_eq a (key y) i (and_parts _ _ above).0 here in
    rw other (nowhere_above key a i ys (and_parts _ _ above).1 here)

-- what is found by a key
pub picked-keyed : {E R : Type 0} (key : E → ℤ) (name : R → ℤ) (pick : E → Option R) (i : ℤ) (xs : List E) → KeepsKeys key name pick → keys_rise key xs ≡ true → keyed_by name i (filter_map pick xs) ≡ option_and_then pick (keyed_by key i xs)
picked-keyed key name pick i [] keeps rise = refl
picked-keyed {E} {R} key name pick i (x ∷ xs) keeps rise = by_test (int_eq (key x) i) refl (picked-keyed key name pick i xs keeps (and_parts _ _ rise).1) where
  here_it : int_eq (key x) i ≡ true → (o : Option R) → pick x ≡ o → keyed_by name i (filter_map pick (x ∷ xs)) ≡ option_and_then pick (keyed_by key i (x ∷ xs))
  here_it here None is = rw (here, is) (nowhere_above name (key x) i (filter_map pick xs) (picked-above key name pick (key x) xs keeps (and_parts _ _ rise).0) here)
  here_it here (Some r) is =
      let at : int_eq (name r) i ≡ true = ap (λ n. int_eq n i) (keeps x r is) ∙ here in
      rw (here, is, at) refl

  not_it : int_eq (key x) i ≡ false → keyed_by name i (filter_map pick xs) ≡ option_and_then pick (keyed_by key i xs) → (o : Option R) → pick x ≡ o → keyed_by name i (filter_map pick (x ∷ xs)) ≡ option_and_then pick (keyed_by key i (x ∷ xs))
  not_it other rest None is = rw (other, is) rest
  not_it other rest (Some r) is =
      let at : int_eq (name r) i ≡ false = ap (λ n. int_eq n i) (keeps x r is) ∙ other in
      rw (other, is, at) rest

  by_test : (t : Bool) → int_eq (key x) i ≡ t → keyed_by name i (filter_map pick xs) ≡ option_and_then pick (keyed_by key i xs) → keyed_by name i (filter_map pick (x ∷ xs)) ≡ option_and_then pick (keyed_by key i (x ∷ xs))
  by_test true here rest = here_it here (pick x) refl
  by_test false other rest = not_it other rest (pick x) refl

-- what is picked stands by rising keys too
pub picked-rise : {E R : Type 0} (key : E → ℤ) (name : R → ℤ) (pick : E → Option R) (xs : List E) → KeepsKeys key name pick → keys_rise key xs ≡ true → keys_rise name (filter_map pick xs) ≡ true
picked-rise key name pick [] keeps rise = refl
picked-rise {E} {R} key name pick (x ∷ xs) keeps rise = by_pick (pick x) refl (picked-rise key name pick xs keeps (and_parts _ _ rise).1) where
  by_pick : (o : Option R) → pick x ≡ o → keys_rise name (filter_map pick xs) ≡ true → keys_rise name (cons_option o (filter_map pick xs)) ≡ true
  by_pick None is rest = rest
  by_pick (Some r) is rest = and_from _ _ (rw (keeps x r is) (picked-above key name pick (key x) xs keeps (and_parts _ _ rise).0)) rest

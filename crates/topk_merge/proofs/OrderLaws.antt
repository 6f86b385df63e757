-- What offers leave does not depend on their order, nor on how they were parted among several lists.
use Rattle.std.proofs.Common.{◌≡◌, ℕ, zero, suc, ◌<◌, Bool, true, false, List, [], ◌∷◌, ◌++◌, length, get_or, set, swap, take, drop, ◌+◌, refl, sym, ap, ap₂, ◌∙◌, arith, inl, inr, subst}
use Rattle.std.specs.Prelude.{⊤}
use Rattle.std.specs.List.{AllByRecursion}
use Rattle.std.specs.List.Sorted.{IsPermutation}
use Rattle.std.proofs.lemmas.Bool.{cases_Bool, false≢true}
use Rattle.std.proofs.lemmas.List.{take-take, drop_more}
use Rattle.std.proofs.lemmas.List.Sorted.{IsPermutation-keeps}
use Rattle.std.proofs.Math.Seq.{take-nil}
use Rattle.std.proofs.lemmas.List.Edits.{swap_is}
use Rattle.vec_base.specs.Ranks.{placed, all_placed, in_order}
use Rattle.vec_base.specs.inner.Offers.{offered}
use Rattle.vec_base.specs.inner.StrictOrders.{IsStrictOrder}
use Rattle.vec_base.proofs.RankLaws.{one_way, each-map, each-placed, offered-take}

-- Of elements of which neither stands before the other there is one.
abbrev pub AreTold : {A : Type 0} → (A → A → Bool) → Type 0
AreTold {A = A} before = (x y : A) → before x y ≡ false → before y x ≡ false → x ≡ y

-- ---- two elements may be placed in either order

-- where x stands before y
placed-apart : {A : Type 0} (before : A → A → Bool) → IsStrictOrder before → (x y : A) (zs : List A) → before x y ≡ true → placed before x (placed before y zs) ≡ placed before y (placed before x zs)
placed-apart before order x y [] ahead = let back = one_way before order x y ahead in rw (ahead, back)
placed-apart before order x y (z ∷ zs) ahead =
    let back = one_way before order x y ahead in
    elim (cases_Bool (before y z)) [
      | inl y_first ↦ let x_first = order.chain x y z ahead y_first in simp (y_first, x_first, ahead, back)
      | inr y_later ↦ elim (cases_Bool (before x z)) [
        | inl x_first ↦ simp (y_later, x_first, back)
        | inr x_later ↦ simp (y_later, x_later) (ap (λ ws. z ∷ ws) (placed-apart before order x y zs ahead))
      ]
    ]

-- any two
pub placed-exchange : {A : Type 0} (before : A → A → Bool) → IsStrictOrder before → AreTold before → (x y : A) (zs : List A) → placed before x (placed before y zs) ≡ placed before y (placed before x zs)
placed-exchange before order told x y zs =
    elim (cases_Bool (before x y)) [
      | inl ahead ↦ placed-apart before order x y zs ahead
      | inr not_ahead ↦ elim (cases_Bool (before y x)) [
        | inl back ↦ sym (placed-apart before order y x zs back)
        | inr not_back ↦ subst (λ w. placed before x (placed before w zs) ≡ placed before w (placed before x zs)) (told x y not_ahead not_back) refl
      ]
    ]

-- one element may be placed before all others or after them
pub placed-all : {A : Type 0} (before : A → A → Bool) → IsStrictOrder before → AreTold before → (y : A) (o xs : List A) → all_placed before (placed before y o) xs ≡ placed before y (all_placed before o xs)
placed-all before order told y o [] = refl
placed-all before order told y o (x ∷ xs) =
    ap (λ p. all_placed before p xs) (placed-exchange before order told x y o) ∙ placed-all before order told y (placed before x o) xs

-- ---- a list in another order

-- the first element and one further on may change places
first-exchange : {A : Type 0} (before : A → A → Bool) → IsStrictOrder before → AreTold before → (x d : A) (o xs : List A) (i : ℕ) → i < length xs → all_placed before (placed before (get_or xs i d) o) (set xs i x) ≡ all_placed before (placed before x o) xs
first-exchange before order told x d o [] i within = absurd (omega arith)
first-exchange before order told x d o (y ∷ ys) zero within = ap (λ p. all_placed before p ys) (placed-exchange before order told x y o)
first-exchange before order told x d o (y ∷ ys) (suc i) within =
    ap (λ p. all_placed before p (set ys i x)) (placed-exchange before order told y (get_or ys i d) o)
    ∙ first-exchange before order told x d (placed before y o) ys i (omega arith)
    ∙ ap (λ p. all_placed before p ys) (placed-exchange before order told x y o)

-- any two may
exchanged : {A : Type 0} (before : A → A → Bool) → IsStrictOrder before → AreTold before → (d : A) (o xs : List A) (i j : ℕ) → i < length xs → j < length xs → all_placed before o (set (set xs i (get_or xs j d)) j (get_or xs i d)) ≡ all_placed before o xs
exchanged before order told d o [] i j left right = absurd (omega arith)
exchanged before order told d o (x ∷ xs) zero zero left right = refl
exchanged before order told d o (x ∷ xs) zero (suc j) left right = first-exchange before order told x d o xs j (omega arith)
exchanged before order told d o (x ∷ xs) (suc i) zero left right = first-exchange before order told x d o xs i (omega arith)
exchanged before order told d o (x ∷ xs) (suc i) (suc j) left right = exchanged before order told d (placed before x o) xs i j (omega arith) (omega arith)

-- by one exchange
swapped : {A : Type 0} (before : A → A → Bool) → IsStrictOrder before → AreTold before → (o xs : List A) (i j : ℕ) → i < length xs → j < length xs → all_placed before o (swap xs i j) ≡ all_placed before o xs
swapped before order told o [] i j left right = absurd (omega arith)
swapped before order told o (x ∷ xs) i j left right =
    ap (all_placed before o) (sym (swap_is (x ∷ xs) i j x left right)) ∙ exchanged before order told x o (x ∷ xs) i j left right

-- any order will do
pub all_placed-permuted : {A : Type 0} (before : A → A → Bool) → IsStrictOrder before → AreTold before → (o xs ys : List A) → IsPermutation xs ys → all_placed before o ys ≡ all_placed before o xs
all_placed-permuted before order told o xs ys moved =
    IsPermutation-keeps xs (λ zs. all_placed before o zs ≡ all_placed before o xs) refl (λ zs i j left right so_far. swapped before order told o zs i j left right ∙ so_far) ys moved

-- all offers to a list without elements
pub offered-all : {A : Type 0} (before : A → A → Bool) (k : ℕ) (xs : List A) → offered before k [] xs ≡ take k (in_order before xs)
offered-all before k xs = ap (λ o. offered before k o xs) (sym (take-nil k)) ∙ offered-take before k [] xs

-- The first law: what offers leave does not depend on their order.
pub offered-permuted : {A : Type 0} (before : A → A → Bool) → IsStrictOrder before → AreTold before → (k : ℕ) (xs ys : List A) → IsPermutation xs ys → offered before k [] xs ≡ offered before k [] ys
offered-permuted before order told k xs ys moved =
    offered-all before k xs ∙ ap (take k) (sym (all_placed-permuted before order told [] xs ys moved)) ∙ sym (offered-all before k ys)

-- ---- two lists

-- one list behind the other
pub all_placed-append : {A : Type 0} (before : A → A → Bool) (o xs ys : List A) → all_placed before o (xs ++ ys) ≡ all_placed before (all_placed before o xs) ys
all_placed-append before o [] ys = refl
all_placed-append before o (x ∷ xs) ys = all_placed-append before (placed before x o) xs ys

-- either list first
all-commute : {A : Type 0} (before : A → A → Bool) → IsStrictOrder before → AreTold before → (o xs ys : List A) → all_placed before (all_placed before o xs) ys ≡ all_placed before (all_placed before o ys) xs
all-commute before order told o [] ys = refl
all-commute before order told o (x ∷ xs) ys =
    all-commute before order told (placed before x o) xs ys ∙ ap (λ q. all_placed before q xs) (placed-all before order told x o ys)

-- no element stands before an earlier one
abbrev IsInLine : {A : Type 0} → (A → A → Bool) → List A → Type 0
IsInLine before [] = ⊤
IsInLine before (x ∷ xs) = AllByRecursion (λ y. before y x ≡ false) xs × IsInLine before xs

-- a list in line stays so when x is placed
in_line-placed : {A : Type 0} (before : A → A → Bool) → IsStrictOrder before → (x : A) (xs : List A) → IsInLine before xs → IsInLine before (placed before x xs)
in_line-placed before order x [] up = (tt, tt)
in_line-placed {A = A} before order x (y ∷ ys) up =
    elim (cases_Bool (before x y)) [
      | inl ahead ↦
          let behind : (z : A) → before z y ≡ false → before z x ≡ false =
          λ z later. elim (cases_Bool (before z x)) [ inl first ↦ absurd (false≢true (sym later ∙ order.chain z x y first ahead)) | inr later_too ↦ later_too ] in
          rw ahead ((one_way before order x y ahead, each-map (λ z. before z y ≡ false) (λ z. before z x ≡ false) behind ys up.0), up)
      | inr not_ahead ↦ rw not_ahead (each-placed before (λ z. before z y ≡ false) x ys not_ahead up.0, in_line-placed before order x ys up.1)
    ]

-- and when many are
in_line-all : {A : Type 0} (before : A → A → Bool) → IsStrictOrder before → (o xs : List A) → IsInLine before o → IsInLine before (all_placed before o xs)
in_line-all before order o [] up = up
in_line-all before order o (x ∷ xs) up = in_line-all before order (placed before x o) xs (in_line-placed before order x o up)

-- what holds of each element holds of each of the first
each-take : {A : Type 0} (P : A → Type 0) (n : ℕ) (xs : List A) → AllByRecursion P xs → AllByRecursion P (take n xs)
each-take P zero xs each = tt
each-take P (suc n) [] each = tt
each-take P (suc n) (x ∷ xs) each = (each.0, each-take P n xs each.1)

-- the first of a list in line are in line
in_line-take : {A : Type 0} (before : A → A → Bool) (n : ℕ) (xs : List A) → IsInLine before xs → IsInLine before (take n xs)
in_line-take before zero xs up = tt
in_line-take before (suc n) [] up = tt
in_line-take before (suc n) (x ∷ xs) up = (each-take (λ y. before y x ≡ false) n xs up.0, in_line-take before n xs up.1)

-- x stands in front of elements of which none stands before it
placed-front : {A : Type 0} (before : A → A → Bool) → AreTold before → (x : A) (ys : List A) → AllByRecursion (λ y. before y x ≡ false) ys → placed before x ys ≡ x ∷ ys
placed-front before told x [] each = refl
placed-front before told x (y ∷ ys) each =
    elim (cases_Bool (before x y)) [
      | inl ahead ↦ rw ahead refl
      | inr not_ahead ↦
          let same = told x y not_ahead each.0 in
          rw not_ahead (ap (λ zs. y ∷ zs) (placed-front before told x ys each.1) ∙ subst (λ z. z ∷ x ∷ ys ≡ x ∷ z ∷ ys) same refl)
    ]

-- a list in line is its own order
in_line-itself : {A : Type 0} (before : A → A → Bool) → IsStrictOrder before → AreTold before → (xs : List A) → IsInLine before xs → in_order before xs ≡ xs
in_line-itself before order told [] up = refl
in_line-itself before order told (x ∷ xs) up =
    placed-all before order told x [] xs ∙ ap (placed before x) (in_line-itself before order told xs up.1) ∙ placed-front before told x xs up.0

-- what was cut off is not missed, in the list that the elements are put into
take-kept : {A : Type 0} (before : A → A → Bool) (k : ℕ) (o xs : List A) → take k (all_placed before (take k o) xs) ≡ take k (all_placed before o xs)
take-kept before k o xs =
    sym (offered-take before k (take k o) xs) ∙ ap (λ q. offered before k q xs) (take-take k k o (omega arith)) ∙ offered-take before k o xs

-- nor in the other one
take-others : {A : Type 0} (before : A → A → Bool) → IsStrictOrder before → AreTold before → (k : ℕ) (xs ys : List A) → take k (all_placed before (in_order before xs) (take k (in_order before ys))) ≡ take k (all_placed before (in_order before ys) xs)
take-others before order told k xs ys =
    let first = take k (in_order before ys) in
    ap (take k) (all-commute before order told [] xs first ∙ ap (λ q. all_placed before q xs) (in_line-itself before order told first (in_line-take before k (in_order before ys) (in_line-all before order [] ys tt))))
    ∙ take-kept before k (in_order before ys) xs

-- The second law: two lists that offers left give together what all the offers leave.
pub offered-merged : {A : Type 0} (before : A → A → Bool) → IsStrictOrder before → AreTold before → (k : ℕ) (xs ys : List A) → take k (all_placed before (offered before k [] xs) (offered before k [] ys)) ≡ offered before k [] (xs ++ ys)
offered-merged before order told k xs ys =
    ap₂ (λ p q. take k (all_placed before p q)) (offered-all before k xs) (offered-all before k ys)
    ∙ take-kept before k (in_order before xs) (take k (in_order before ys))
    ∙ take-others before order told k xs ys
    ∙ ap (take k) (all-commute before order told [] ys xs ∙ sym (all_placed-append before [] xs ys))
    ∙ sym (offered-all before k (xs ++ ys))

-- a step of a loop that places the elements of a list
pub kept-more : {A : Type 0} (before : A → A → Bool) (k : ℕ) (d : A) (kept more others : List A) (i : ℕ) → i < length others → more ≡ take k (placed before (get_or others i d) kept) → take k (all_placed before more (drop (i + 1) others)) ≡ take k (all_placed before kept (drop i others))
kept-more before k d kept more others i within is =
    ap (λ p. take k (all_placed before p (drop (i + 1) others))) is
    ∙ take-kept before k (placed before (get_or others i d) kept) (drop (i + 1) others)
    ∙ ap (λ l. take k (all_placed before kept l)) (sym (drop_more others i d within))

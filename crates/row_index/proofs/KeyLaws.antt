-- Lists of items by rising keys: what a search finds there, and that they go on rising.
use Rattle.std.proofs.Common.{◌≡◌, ℕ, zero, suc, ◌+◌, ◌<◌, ◌≤◌, List, [], ◌∷◌, length, get_or, set, Less, Equal, Greater, sym, ap, ◌∙◌, arith, Some, None, ⊎_elim}
use Rattle.std.specs.Cmp.{IsTotalOrder}
use Rattle.std.specs.List.{AllByRecursion, insert, remove}
use Rattle.std.specs.List.Sorted.{IsNonDecreasingBy, IsStrictlySortedBy}
use Rattle.std.specs.Ordering.{ordering_index, ordering_reverse, is_eq, is_lt}
use Rattle.std.specs.declared.cmp.Ordering.{Ordering}
use Rattle.std.proofs.lemmas.Bool.{cases_lt}
use Rattle.std.proofs.lemmas.Cmp.{alike_right}
use Rattle.std.proofs.lemmas.List.Sorted.{searchable_from_sorted}
use Rattle.row_index.specs.inner.Keys.{Rises, item_of, IsGap}
use Rattle.row_index.proofs.FindLaws.{all_at, all-insert, all-set, all-remove, find_first, find_none}

greater_back : {K : Type 0} (order : K → K → Ordering) → IsTotalOrder order → (a b : K) → order a b ≡ Less → order b a ≡ Greater
greater_back order total a b less = total.antisymm b a ∙ ap ordering_reverse less

less_back : {K : Type 0} (order : K → K → Ordering) → IsTotalOrder order → (a b : K) → order a b ≡ Greater → order b a ≡ Less
less_back order total a b greater = total.antisymm b a ∙ ap ordering_reverse greater

-- of two items the one in front has the lesser key
pub rises_at : {A K : Type 0} (order : K → K → Ordering) (key : A → K) (xs : List A) (i j : ℕ) (d : A) → Rises order key xs → i < j → j < length xs → order (key (get_or xs i d)) (key (get_or xs j d)) ≡ Less
unfolding IsStrictlySortedBy
rises_at order key [] i j d rises lt within = absurd (omega arith)
rises_at order key (x ∷ xs) i zero d rises lt within = absurd (omega arith)
rises_at order key (x ∷ xs) zero (suc j) d rises lt within = all_at (λ y. order (key x) (key y) ≡ Less) xs j d rises.0 (omega arith)
rises_at order key (x ∷ xs) (suc i) (suc j) d rises lt within = rises_at order key xs i j d rises.1 (omega arith) (omega arith)

-- they can be searched
pub searchable : {A K : Type 0} (order : K → K → Ordering) → IsTotalOrder order → (key : A → K) (k : K) (xs : List A) → Rises order key xs → IsNonDecreasingBy (λ x. ordering_index (order (key x) k)) xs
searchable order total key k xs rises =
    searchable_from_sorted total key xs k
    (λ i d low high. ap is_lt (greater_back order total (key (get_or xs i d)) (key (get_or xs (i + 1) d)) (rises_at order key xs i (i + 1) d rises (omega arith) high)))

-- items in front of the one of a key
pub less_before : {A K : Type 0} (order : K → K → Ordering) → IsTotalOrder order → (key : A → K) (k : K) (xs : List A) (at i : ℕ) (d : A) → Rises order key xs → at < length xs → order (key (get_or xs at d)) k ≡ Equal → i < at → order (key (get_or xs i d)) k ≡ Less
less_before order total key k xs at i d rises within equal lt =
    sym (alike_right total (key (get_or xs at d)) k (key (get_or xs i d)) equal) ∙ rises_at order key xs i at d rises lt within

-- and those behind it
pub greater_behind : {A K : Type 0} (order : K → K → Ordering) → IsTotalOrder order → (key : A → K) (k : K) (xs : List A) (at i : ℕ) (d : A) → Rises order key xs → order (key (get_or xs at d)) k ≡ Equal → at < i → i < length xs → order (key (get_or xs i d)) k ≡ Greater
greater_behind order total key k xs at i d rises equal lt within =
    sym (alike_right total (key (get_or xs at d)) k (key (get_or xs i d)) equal)
    ∙ greater_back order total (key (get_or xs at d)) (key (get_or xs i d)) (rises_at order key xs at i d rises lt within)

-- an item of the key is the first of the key
pub found : {A K : Type 0} (order : K → K → Ordering) → IsTotalOrder order → (key : A → K) (k : K) (xs : List A) (at : ℕ) (d : A) → Rises order key xs → at < length xs → order (key (get_or xs at d)) k ≡ Equal → item_of order key k xs ≡ Some (get_or xs at d)
found order total key k xs at d rises within equal =
    find_first (λ x. is_eq (order (key x) k)) xs at d within
    (λ i lt. ap is_eq (less_before order total key k xs at i d rises within equal lt))
    (ap is_eq equal)

pub not_found : {A K : Type 0} (order : K → K → Ordering) (key : A → K) (k : K) (xs : List A) (at : ℕ) → IsGap (λ x. order (key x) k) xs at → item_of order key k xs ≡ None
not_found order key k xs at gap =
    find_none (λ x. is_eq (order (key x) k)) xs
    (λ i d within.
    ⊎_elim
    (λ (lt : i < at). ap is_eq (gap.0 i d (omega arith) lt))
    (λ (ge : at ≤ i). ap is_eq (gap.1 i d ge within))
    (cases_lt i at))

-- ---- changes

all_less : {A K : Type 0} (order : K → K → Ordering) → IsTotalOrder order → (key : A → K) (y : A) (xs : List A) → ((i : ℕ) (d : A) → i < length xs → order (key (get_or xs i d)) (key y) ≡ Greater) → AllByRecursion (λ x. order (key y) (key x) ≡ Less) xs
all_less order total key y [] greater = tt
all_less order total key y (x ∷ xs) greater =
    (less_back order total (key x) (key y) (greater 0 x (omega arith)), all_less order total key y xs (λ i d within. greater (suc i) d (omega arith)))

pub rises-insert : {A K : Type 0} (order : K → K → Ordering) → IsTotalOrder order → (key : A → K) (xs : List A) (at : ℕ) (y : A) → at ≤ length xs → IsGap (λ x. order (key x) (key y)) xs at → Rises order key xs → Rises order key (insert xs at y)
unfolding IsStrictlySortedBy
rises-insert order total key xs zero y le gap rises = (all_less order total key y xs (λ i d within. gap.1 i d (omega arith) within), rises)
rises-insert order total key [] (suc at) y le gap rises = absurd (omega arith)
rises-insert order total key (x ∷ xs) (suc at) y le gap rises =
    let rest : IsGap (λ z. order (key z) (key y)) xs at =
    ((λ k d low high. gap.0 (suc k) d (omega arith) (omega arith)), (λ k d low high. gap.1 (suc k) d (omega arith) (omega arith)))
    in (
      all-insert (λ z. order (key x) (key z) ≡ Less) xs at y (omega arith) rises.0 (gap.0 0 x (omega arith) (omega arith)),
      rises-insert order total key xs at y (omega arith) rest rises.1,
    )

-- an item in the place of one of the same key
same_above : {A K : Type 0} (order : K → K → Ordering) → IsTotalOrder order → (key : A → K) (x y : A) (xs : List A) → order (key x) (key y) ≡ Equal → AllByRecursion (λ z. order (key x) (key z) ≡ Less) xs → AllByRecursion (λ z. order (key y) (key z) ≡ Less) xs
same_above order total key x y [] equal above = tt
same_above order total key x y (z ∷ zs) equal above =
    (sym (total.congr (key x) (key y) (key z) equal) ∙ above.0, same_above order total key x y zs equal above.1)

pub rises-set : {A K : Type 0} (order : K → K → Ordering) → IsTotalOrder order → (key : A → K) (xs : List A) (at : ℕ) (y d : A) → at < length xs → order (key (get_or xs at d)) (key y) ≡ Equal → Rises order key xs → Rises order key (set xs at y)
unfolding IsStrictlySortedBy
rises-set order total key [] at y d within equal rises = absurd (omega arith)
rises-set order total key (x ∷ xs) zero y d within equal rises = (same_above order total key x y xs equal rises.0, rises.1)
rises-set order total key (x ∷ xs) (suc at) y d within equal rises =
    let here = all_at (λ z. order (key x) (key z) ≡ Less) xs at d rises.0 (omega arith) in (
      all-set (λ z. order (key x) (key z) ≡ Less) xs at y rises.0 (sym (alike_right total (key (get_or xs at d)) (key y) (key x) equal) ∙ here),
      rises-set order total key xs at y d (omega arith) equal rises.1,
    )

pub rises-remove : {A K : Type 0} (order : K → K → Ordering) (key : A → K) (xs : List A) (at : ℕ) → Rises order key xs → Rises order key (remove xs at)
unfolding IsStrictlySortedBy
rises-remove order key [] zero rises = rises
rises-remove order key [] (suc at) rises = rises
rises-remove order key (x ∷ xs) zero rises = rises.1
rises-remove order key (x ∷ xs) (suc at) rises = (all-remove (λ y. order (key x) (key y) ≡ Less) xs at rises.0, rises-remove order key xs at rises.1)

-- What holds of all items of a list, and of all pairs of them, where one item is put in, taken out or changed.
use Rattle.std.proofs.Common.{◌≡◌, ℕ, zero, suc, ◌+◌, ◌-◌, ◌<◌, ◌≤◌, List, [], ◌∷◌, length, get_or, take, drop, refl, sym, ap, ◌∙◌, ◌⊎◌, inl, inr, ⊎_elim, arith}
use Rattle.std.specs.List.{All, AllPairs, Contains, insert, remove}
use Rattle.std.proofs.lemmas.Bool.{cases_lt, cases_eq}
use Rattle.std.proofs.lemmas.List.Edits.{length-insert, length-remove, get_or-insert_below, get_or-insert_above, get_or-remove_below, get_or-remove_above}
use Rattle.std.proofs.lemmas.List.Elements.{All-append, All-cons, All-head, All-tail, All-take, All-drop}
use Rattle.shared_leaves.specs.Edits.{edited_at}

pub all-insert : {A : Type 0} (P : A → Type 0) (xs : List A) (at : ℕ) (y : A) → All P xs → P y → All P (insert xs at y)
all-insert P xs at y all one = All-append P (take at xs) (y ∷ drop at xs) (All-take P at xs all) (All-cons P y (drop at xs) one (All-drop P at xs all))

pub all-remove : {A : Type 0} (P : A → Type 0) (xs : List A) (at : ℕ) → All P xs → All P (remove xs at)
all-remove P xs at all = All-append P (take at xs) (drop (suc at) xs) (All-take P at xs all) (All-drop P (suc at) xs all)

pub all-edited : {A : Type 0} (P : A → Type 0) (f : A → A) (xs : List A) (at : ℕ) → All P xs → ((d : A) → at < length xs → P (f (get_or xs at d))) → All P (edited_at f at xs)
all-edited P f [] at all one = all
all-edited P f (x ∷ xs) zero all one = All-cons P (f x) xs (one x (omega arith)) (All-tail P x xs all)
all-edited P f (x ∷ xs) (suc at) all one =
    All-cons P x (edited_at f at xs) (All-head P x xs all) (all-edited P f xs at (All-tail P x xs all) (λ d lt. one d (omega (arith, lt))))

pub length-edited : {A : Type 0} (f : A → A) (xs : List A) (at : ℕ) → length (edited_at f at xs) ≡ length xs
length-edited f [] at = refl
length-edited f (x ∷ xs) zero = refl
length-edited f (x ∷ xs) (suc at) = ap suc (length-edited f xs at)

-- what a change keeps of items
pub kept-edited : {A B : Type 0} (key : A → B) (f : A → A) → ((x : A) → key (f x) ≡ key x) → (xs : List A) (at k : ℕ) (d : A) → key (get_or (edited_at f at xs) k d) ≡ key (get_or xs k d)
kept-edited key f keeps [] at k d = refl
kept-edited key f keeps (x ∷ xs) zero zero d = keeps x
kept-edited key f keeps (x ∷ xs) zero (suc k) d = refl
kept-edited key f keeps (x ∷ xs) (suc at) zero d = refl
kept-edited key f keeps (x ∷ xs) (suc at) (suc k) d = kept-edited key f keeps xs at k d

pub pairs-tail : {A : Type 0} (R : A → A → Type 0) (x : A) (xs : List A) → AllPairs R (x ∷ xs) → AllPairs R xs
pairs-tail R x xs all i j d lt within = all (suc i) (suc j) d (omega (arith, lt)) (omega (arith, within))

pub pairs-head : {A : Type 0} (R : A → A → Type 0) (x : A) (xs : List A) → AllPairs R (x ∷ xs) → All (R x) xs
pairs-head R x xs all k d lt = all 0 (suc k) d (omega arith) (omega (arith, lt))

pairs-cons : {A : Type 0} (R : A → A → Type 0) (x : A) (xs : List A) → All (R x) xs → AllPairs R xs → AllPairs R (x ∷ xs)
pairs-cons R x xs first rest zero zero d lt within = absurd (omega (arith, lt))
pairs-cons R x xs first rest zero (suc j) d lt within = first j d (omega (arith, within))
pairs-cons R x xs first rest (suc i) zero d lt within = absurd (omega (arith, lt))
pairs-cons R x xs first rest (suc i) (suc j) d lt within = rest i j d (omega (arith, lt)) (omega (arith, within))

pub pairs-insert : {A : Type 0} (R : A → A → Type 0) (xs : List A) (at : ℕ) (y : A) → AllPairs R xs → at ≤ length xs →
    ((k : ℕ) (d : A) → k < at → R (get_or xs k d) y) → ((k : ℕ) (d : A) → at ≤ k → k < length xs → R y (get_or xs k d)) → AllPairs R (insert xs at y)
pairs-insert R xs zero y all le below above = pairs-cons R y xs (λ k d lt. above k d (omega arith) lt) all
pairs-insert R [] (suc at) y all le below above = absurd (omega (arith, le))
pairs-insert R (x ∷ xs) (suc at) y all le below above =
    pairs-cons R x (insert xs at y) (all-insert (R x) xs at y (pairs-head R x xs all) (below 0 x (omega arith)))
    (pairs-insert R xs at y (pairs-tail R x xs all) (omega (arith, le)) (λ k d lt. below (suc k) d (omega (arith, lt))) (λ k d ge lt. above (suc k) d (omega (arith, ge)) (omega (arith, lt))))

-- ---- items of a list

pub contains-insert : {A : Type 0} (xs : List A) (at : ℕ) (x y : A) → at ≤ length xs → Contains xs x → Contains (insert xs at y) x
contains-insert xs at x y le there =
    let k = there.0 in
    let lt = there.1 in
    let is = there.2 in
    let n = length-insert xs at y le in
    ⊎_elim
    (λ (low : k < at). (k, omega (arith, n, lt), get_or-insert_below xs at y x k low le ∙ is))
    (λ (high : at ≤ k). (k + 1, omega (arith, n, lt), get_or-insert_above xs at y x k high le ∙ is))
    (cases_lt k at)

-- an item is the one that is taken out, or still there
pub contains-remove : {A : Type 0} (xs : List A) (at : ℕ) (x : A) → at < length xs → Contains xs x → (x ≡ get_or xs at x) ⊎ Contains (remove xs at) x
contains-remove xs at x within there =
    let k = there.0 in
    let lt = there.1 in
    let is = there.2 in
    let n = length-remove xs at within in
    ⊎_elim
    (λ (low : k < at). inr (k, omega (arith, n, within, low), get_or-remove_below xs at x k low within ∙ is))
    (λ (high : at ≤ k).
    ⊎_elim
    (λ (same : k ≡ at). inl (sym is ∙ ap (λ i. get_or xs i x) same))
    (λ (other : k ≡ at → ⊥).
    let place : k ≡ (k - 1) + 1 = omega (arith, high, other) in
    inr (k - 1, omega (arith, n, lt, high, other), get_or-remove_above xs at x (k - 1) (omega (arith, high, other)) within ∙ ap (λ i. get_or xs i x) (sym place) ∙ is))
    (cases_eq k at))
    (cases_lt k at)

-- the item at a place of a list
pub some_item : {A : Type 0} (xs : List A) (at : ℕ) → at < length xs → (x : A) × (x ≡ get_or xs at x)
some_item [] at lt = absurd (omega (arith, lt))
some_item (x ∷ xs) zero lt = (x, refl)
some_item (x ∷ xs) (suc at) lt = some_item xs at (omega (arith, lt))

-- What a change of one item makes of lists, and where the item stands in lists of lists.
use Rattle.std.proofs.Common.{◌≡◌, ℕ, zero, suc, ◌+◌, ◌<◌, List, [], ◌∷◌, ◌++◌, length, get_or, set, take, drop, Some, slice_get, refl, sym, ap, ◌∙◌, arith}
use Rattle.shared_leaves.specs.Edits.{edited_at, HoldsAt}
use Rattle.shared_leaves.specs.inner.Joined.{joined}
use Rattle.shared_leaves.proofs.JoinedLaws.{joined_around, joined-set}

-- the item that stands at the place, changed and put there
pub edited-set : {A : Type 0} (change : A → A) (xs : List A) (at : ℕ) (x y : A) → at < length xs → x ≡ get_or xs at x → y ≡ change x → set xs at y ≡ edited_at change at xs
edited-set change [] at x y lt e d = absurd (omega (arith, lt))
edited-set change (z ∷ zs) zero x y lt e d = ap (λ w. w ∷ zs) (d ∙ ap change e)
edited-set change (z ∷ zs) (suc at) x y lt e d = ap (λ l. z ∷ l) (edited-set change zs at x y (omega arith) e d)

-- the same, where the list is known as another one
pub edited-seen : {A : Type 0} (change : A → A) (xs ys : List A) (at : ℕ) (x y : A) → xs ≡ ys → at < length xs → x ≡ get_or xs at x → y ≡ change x → set xs at y ≡ edited_at change at ys
edited-seen change xs ys at x y same lt e d = edited-set change xs at x y lt e d ∙ ap (edited_at change at) same

pub length-edited : {A : Type 0} (change : A → A) (at : ℕ) (xs : List A) → length (edited_at change at xs) ≡ length xs
length-edited change at [] = refl
length-edited change zero (x ∷ xs) = refl
length-edited change (suc at) (x ∷ xs) = ap suc (length-edited change at xs)

edited-append_left : {A : Type 0} (change : A → A) (xs ys : List A) (at : ℕ) → at < length xs → edited_at change at (xs ++ ys) ≡ edited_at change at xs ++ ys
edited-append_left change [] ys at lt = absurd (omega (arith, lt))
edited-append_left change (x ∷ xs) ys zero lt = refl
edited-append_left change (x ∷ xs) ys (suc at) lt = ap (λ l. x ∷ l) (edited-append_left change xs ys at (omega arith))

edited-append_right : {A : Type 0} (change : A → A) (xs ys : List A) (at : ℕ) → edited_at change (length xs + at) (xs ++ ys) ≡ xs ++ edited_at change at ys
edited-append_right change [] ys at = let e : 0 + at ≡ at = omega arith in ap (λ n. edited_at change n ys) e
edited-append_right change (x ∷ xs) ys at =
    let e : length (x ∷ xs) + at ≡ suc (length xs + at) = omega arith in
    ap (λ n. edited_at change n (x ∷ (xs ++ ys))) e ∙ ap (λ l. x ∷ l) (edited-append_right change xs ys at)

get-append_left : {A : Type 0} (xs ys : List A) (at : ℕ) (x : A) → slice_get xs at ≡ Some x → slice_get (xs ++ ys) at ≡ Some x
get-append_left [] ys at x e = absurd cc
get-append_left (z ∷ zs) ys zero x e = e
get-append_left (z ∷ zs) ys (suc at) x e = get-append_left zs ys at x e

get-append_right : {A : Type 0} (xs ys : List A) (at : ℕ) → slice_get (xs ++ ys) (length xs + at) ≡ slice_get ys at
get-append_right [] ys at = let e : 0 + at ≡ at = omega arith in ap (slice_get ys) e
get-append_right (x ∷ xs) ys at =
    let e : length (x ∷ xs) + at ≡ suc (length xs + at) = omega arith in
    ap (slice_get (x ∷ (xs ++ ys))) e ∙ get-append_right xs ys at

-- an item of a list, changed there and in the one list
pub edited-joined : {A : Type 0} (change : A → A) (xss : List (List A)) (k at i : ℕ) → k < length xss → at < length (get_or xss k []) → length (joined (take k xss)) + at ≡ i → joined (set xss k (edited_at change at (get_or xss k []))) ≡ edited_at change i (joined xss)
edited-joined change xss k at i lt within is =
    joined-set xss k (edited_at change at (get_or xss k [])) lt ∙ sym (
    ap (λ l. edited_at change i l) (joined_around xss k lt)
    ∙ ap (λ n. edited_at change n (joined (take k xss) ++ (get_or xss k [] ++ joined (drop (k + 1) xss)))) (sym is)
    ∙ edited-append_right change (joined (take k xss)) (get_or xss k [] ++ joined (drop (k + 1) xss)) at
    ∙ ap (λ l. joined (take k xss) ++ l) (edited-append_left change (get_or xss k []) (joined (drop (k + 1) xss)) at within))

-- what holds of the item in the one list holds of it in its list
pub holds-joined : {A : Type 0} (P : A → Type 0) (xss : List (List A)) (k at i : ℕ) → k < length xss → length (joined (take k xss)) + at ≡ i → HoldsAt P i (joined xss) → HoldsAt P at (get_or xss k [])
holds-joined P xss k at i lt is holds = λ x there.
    holds x (
    ap (λ l. slice_get l i) (joined_around xss k lt)
    ∙ ap (slice_get (joined (take k xss) ++ (get_or xss k [] ++ joined (drop (k + 1) xss)))) (sym is)
    ∙ get-append_right (joined (take k xss)) (get_or xss k [] ++ joined (drop (k + 1) xss)) at
    ∙ get-append_left (get_or xss k []) (joined (drop (k + 1) xss)) at x there)

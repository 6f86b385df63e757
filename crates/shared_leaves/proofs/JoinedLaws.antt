-- Lists of lists as one list: where an item stands in it, and what a change of one list makes of it.
use Rattle.std.proofs.Common.{◌≡◌, Bool, true, false, if◌then◌else◌, ℕ, suc, ◌+◌, ◌-◌, ◌<◌, ◌≤◌, List, [], ◌∷◌, ◌++◌, length, get_or, set, take, drop, refl, sym, ap, ◌∙◌, arith, append_assoc, length-append, add-one}
use Rattle.std.specs.List.{insert, remove}
use Rattle.std.proofs.lemmas.List.{set_split, get_or_read, take-append-drop, drop_more, take_more, take_more_set, take-take, take-append-le, drop_at, append-nil, nil_from_length, length-take-le, get_or_append_left, get_or-append_right, set-append_left, set-append_right}
use Rattle.std.proofs.lemmas.List.Edits.{insert-append_left, insert-append_right, length-insert, length-remove, remove-append_left, remove-append_right}
use Rattle.shared_leaves.specs.inner.Joined.{joined}

pub joined-append : {A : Type 0} (xss yss : List (List A)) → joined (xss ++ yss) ≡ joined xss ++ joined yss
joined-append [] yss = refl
joined-append (xs ∷ xss) yss = rw (joined-append xss yss) (sym (append_assoc xs (joined xss) (joined yss)))

-- what stands before a list, the list, and what stands behind it
pub joined_around : {A : Type 0} (xss : List (List A)) (k : ℕ) → k < length xss → joined xss ≡ joined (take k xss) ++ (get_or xss k [] ++ joined (drop (k + 1) xss))
joined_around xss k lt =
    ap joined (sym (take-append-drop k xss)) ∙ joined-append (take k xss) (drop k xss) ∙ ap (λ r. joined (take k xss) ++ joined r) (drop_more xss k [] lt)

pub joined-set : {A : Type 0} (xss : List (List A)) (k : ℕ) (ys : List A) → k < length xss → joined (set xss k ys) ≡ joined (take k xss) ++ (ys ++ joined (drop (k + 1) xss))
joined-set xss k ys lt =
    ap joined (set_split xss k ys lt) ∙ joined-append (take k xss) (ys ∷ drop (suc k) xss) ∙ ap (λ n. joined (take k xss) ++ (ys ++ joined (drop n xss))) (sym (add-one k))

pub length-joined_more : {A : Type 0} (xss : List (List A)) (k : ℕ) → k < length xss → length (joined (take (k + 1) xss)) ≡ length (joined (take k xss)) + length (get_or xss k [])
length-joined_more xss k lt =
    let e = ap joined (take_more xss k [] lt) ∙ joined-append (take k xss) (get_or xss k [] ∷ []) in
    let n : length (joined (take (k + 1) xss)) ≡ length (joined (take k xss) ++ (get_or xss k [] ++ [])) = ap length e in
    omega (arith, n, length-append (joined (take k xss)) (get_or xss k [] ++ []), length-append (get_or xss k []) [])

-- an item of a list, and a write, an insertion and a removal there, by its place in the one list
pub get_or-joined : {A : Type 0} (xss : List (List A)) (k at i : ℕ) (d : A) → k < length xss → at < length (get_or xss k []) → length (joined (take k xss)) + at ≡ i → get_or (joined xss) i d ≡ get_or (get_or xss k []) at d
get_or-joined xss k at i d lt within is =
    rw (joined_around xss k lt) (
    get_or-append_right (joined (take k xss)) (get_or xss k [] ++ joined (drop (k + 1) xss)) (length (joined (take k xss))) i d refl (omega arith)
    ∙ ap (λ n. get_or (get_or xss k [] ++ joined (drop (k + 1) xss)) n d) (let e : i - length (joined (take k xss)) ≡ at = omega arith in e)
    ∙ get_or_append_left (get_or xss k []) (joined (drop (k + 1) xss)) d at within)

pub set-joined : {A : Type 0} (xss : List (List A)) (k at i : ℕ) (v : A) → k < length xss → at < length (get_or xss k []) → length (joined (take k xss)) + at ≡ i → joined (set xss k (set (get_or xss k []) at v)) ≡ set (joined xss) i v
set-joined xss k at i v lt within is =
    joined-set xss k (set (get_or xss k []) at v) lt ∙ sym (
    ap (λ l. set l i v) (joined_around xss k lt)
    ∙ set-append_right (joined (take k xss)) (get_or xss k [] ++ joined (drop (k + 1) xss)) (length (joined (take k xss))) i v refl (omega arith)
    ∙ ap (λ n. joined (take k xss) ++ set (get_or xss k [] ++ joined (drop (k + 1) xss)) n v) (let e : i - length (joined (take k xss)) ≡ at = omega arith in e)
    ∙ ap (λ l. joined (take k xss) ++ l) (set-append_left (get_or xss k []) (joined (drop (k + 1) xss)) at v within))

pub insert-joined : {A : Type 0} (xss : List (List A)) (k at i : ℕ) (v : A) → k < length xss → at ≤ length (get_or xss k []) → length (joined (take k xss)) + at ≡ i → joined (set xss k (insert (get_or xss k []) at v)) ≡ insert (joined xss) i v
insert-joined xss k at i v lt within is =
    joined-set xss k (insert (get_or xss k []) at v) lt ∙ sym (
    ap (λ l. insert l i v) (joined_around xss k lt)
    ∙ insert-append_right (joined (take k xss)) (get_or xss k [] ++ joined (drop (k + 1) xss)) (length (joined (take k xss))) i v refl (omega arith)
    ∙ ap (λ n. joined (take k xss) ++ insert (get_or xss k [] ++ joined (drop (k + 1) xss)) n v) (let e : i - length (joined (take k xss)) ≡ at = omega arith in e)
    ∙ ap (λ l. joined (take k xss) ++ l) (insert-append_left (get_or xss k []) (joined (drop (k + 1) xss)) at v within))

pub remove-joined : {A : Type 0} (xss : List (List A)) (k at i : ℕ) → k < length xss → at < length (get_or xss k []) → length (joined (take k xss)) + at ≡ i → joined (set xss k (remove (get_or xss k []) at)) ≡ remove (joined xss) i
remove-joined xss k at i lt within is =
    joined-set xss k (remove (get_or xss k []) at) lt ∙ sym (
    ap (λ l. remove l i) (joined_around xss k lt)
    ∙ remove-append_right (joined (take k xss)) (get_or xss k [] ++ joined (drop (k + 1) xss)) (length (joined (take k xss))) i refl (omega arith)
    ∙ ap (λ n. joined (take k xss) ++ remove (get_or xss k [] ++ joined (drop (k + 1) xss)) n) (let e : i - length (joined (take k xss)) ≡ at = omega arith in e)
    ∙ ap (λ l. joined (take k xss) ++ l) (remove-append_left (get_or xss k []) (joined (drop (k + 1) xss)) at within))

-- one more list without items
pub joined-push_nil : {A : Type 0} (xss : List (List A)) (ys : List A) → ys ≡ [] → joined (xss ++ ys ∷ []) ≡ joined xss
joined-push_nil xss ys e = joined-append xss (ys ∷ []) ∙ ap (λ (l : List _). joined xss ++ (l ++ [])) e ∙ append-nil (joined xss)

pub joined-insert_nil : {A : Type 0} (xss : List (List A)) (j : ℕ) (ys : List A) → ys ≡ [] → joined (insert xss j ys) ≡ joined xss
joined-insert_nil xss j ys e =
    joined-append (take j xss) (ys ∷ drop j xss)
    ∙ ap (λ (l : List _). joined (take j xss) ++ (l ++ joined (drop j xss))) e
    ∙ sym (joined-append (take j xss) (drop j xss))
    ∙ ap joined (take-append-drop j xss)

pub take-insert : {A : Type 0} (xs : List A) (j n : ℕ) (y : A) → n ≤ j → j ≤ length xs → take n (insert xs j y) ≡ take n xs
take-insert xs j n y le within =
    take-append-le n (take j xs) (y ∷ drop j xs) (omega (arith, length-take-le j xs within)) ∙ take-take n j xs le

drop-insert : {A : Type 0} (xs : List A) (j : ℕ) (y : A) → j ≤ length xs → drop j (insert xs j y) ≡ y ∷ drop j xs
drop-insert xs j y within = drop_at (take j xs) (y ∷ drop j xs) j (length-take-le j xs within)

-- a list in two parts
pub joined-split : {A : Type 0} (xss : List (List A)) (k : ℕ) (l r : List A) → k < length xss → l ++ r ≡ get_or xss k [] → k < length (insert xss (k + 1) r) → joined (set (insert xss (k + 1) r) k l) ≡ joined xss
joined-split xss k l r lt parts fits =
    joined-set (insert xss (k + 1) r) k l fits
    ∙ ap (λ xs. joined xs ++ (l ++ joined (drop (k + 1) (insert xss (k + 1) r)))) (take-insert xss (k + 1) k r (omega arith) (omega arith))
    ∙ ap (λ xs. joined (take k xss) ++ (l ++ joined xs)) (drop-insert xss (k + 1) r (omega arith))
    ∙ ap (λ xs. joined (take k xss) ++ xs) (sym (append_assoc l r (joined (drop (k + 1) xss))))
    ∙ ap (λ xs. joined (take k xss) ++ (xs ++ joined (drop (k + 1) xss))) parts
    ∙ sym (joined_around xss k lt)

pub length-joined_split : {A : Type 0} (xss : List (List A)) (k : ℕ) (l r : List A) → k < length xss → k < length (insert xss (k + 1) r) → length (joined (take (k + 1) (set (insert xss (k + 1) r) k l))) ≡ length (joined (take k xss)) + length l
length-joined_split xss k l r lt fits =
    ap (λ xs. length (joined xs)) (take_more_set (insert xss (k + 1) r) k l fits)
    ∙ ap length (joined-append (take k (insert xss (k + 1) r)) (l ∷ []))
    ∙ ap (λ xs. length (joined xs ++ (l ++ []))) (take-insert xss (k + 1) k r (omega arith) (omega arith))
    ∙ ap (λ xs. length (joined (take k xss) ++ xs)) (append-nil l)
    ∙ length-append (joined (take k xss)) l

pub parts_of : {A : Type 0} (l r q p : List A) (n : ℕ) → l ≡ take n q → r ≡ drop n q → q ≡ p → l ++ r ≡ p
parts_of l r q p n e f h = ap (λ x. x ++ r) e ∙ ap (λ x. take n q ++ x) f ∙ take-append-drop n q ∙ h

-- nothing is left of a list of one item
gone : {A : Type 0} (xs : List A) (at : ℕ) → length xs ≡ 1 → at < length xs → remove xs at ≡ []
gone xs at one within = nil_from_length (remove xs at) (omega (arith, length-remove xs at within))

pub joined-remove_one : {A : Type 0} (xss : List (List A)) (k at i : ℕ) → k < length xss → length (get_or xss k []) ≡ 1 → at < length (get_or xss k []) → length (joined (take k xss)) + at ≡ i → joined (remove xss k) ≡ remove (joined xss) i
joined-remove_one xss k at i lt one within is =
    joined-append (take k xss) (drop (suc k) xss)
    ∙ ap (λ n. joined (take k xss) ++ joined (drop n xss)) (sym (add-one k))
    ∙ sym (joined-set xss k [] lt)
    ∙ ap (λ q. joined (set xss k q)) (sym (gone (get_or xss k []) at one within))
    ∙ remove-joined xss k at i lt within is

-- an insertion into a list that stands for another one
pub inserted : {A : Type 0} (old xss : List (List A)) (k at i : ℕ) (v : A) (now new : List A) → k < length xss → at ≤ length (get_or xss k []) → length (joined (take k xss)) + at ≡ i → now ≡ get_or xss k now → new ≡ insert now at v → joined xss ≡ joined old → joined (set xss k new) ≡ insert (joined old) i v
inserted old xss k at i v now new lt within item is change same =
    ap (λ q. joined (set xss k q)) (change ∙ ap (λ l. insert l at v) (get_or_read xss k now lt is []))
    ∙ insert-joined xss k at i v lt within item
    ∙ ap (λ l. insert l i v) same

-- how many items a changed list leaves in all
pub length-joined_set : {A : Type 0} (xss : List (List A)) (k : ℕ) (ys : List A) → k < length xss → length (joined (set xss k ys)) + length (get_or xss k []) ≡ length (joined xss) + length ys
length-joined_set xss k ys lt =
    let front = joined (take k xss) in
    let back = joined (drop (k + 1) xss) in
    let now = get_or xss k [] in
    let a = ap length (joined-set xss k ys lt) in
    let b = ap length (joined_around xss k lt) in
    omega (arith, a, b, length-append front (ys ++ back), length-append ys back, length-append front (now ++ back), length-append now back)

pub length_inserted : {A : Type 0} (done : Bool) (xs ys : List A) (at : ℕ) (v : A) → at ≤ length xs → ys ≡ (if done then insert xs at v else xs) → length ys ≤ length xs + 1
length_inserted true xs ys at v within e = (let n = ap length e in omega (arith, n, length-insert xs at v within))
length_inserted false xs ys at v within e = (let n = ap length e in omega (arith, n))

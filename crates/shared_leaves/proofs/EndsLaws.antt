-- Where the lists of a list of lists end, counted through.
use Rattle.std.proofs.Common.{◌≡◌, ℕ, zero, suc, ◌+◌, ◌-◌, ◌<◌, ◌≤◌, List, [], ◌∷◌, ◌++◌, length, get_or, set, take, refl, ap, ◌∙◌, arith, length-append, add-one, Result, IsOk, is_ok, cond, ⊎_elim}
use Rattle.std.proofs.lemmas.List.{take_all, take_more}
use Rattle.std.proofs.lemmas.Bool.{cases_lt}
use Rattle.shared_leaves.specs.inner.Joined.{joined, ends_of}
use Rattle.shared_leaves.proofs.JoinedLaws.{length-joined_more}

pub length-ends : {A : Type 0} (s : ℕ) (xss : List (List A)) → length (ends_of s xss) ≡ length xss
length-ends s [] = refl
length-ends s (xs ∷ xss) = ap suc (length-ends (s + length xs) xss)

get_or-ends : {A : Type 0} (s : ℕ) (xss : List (List A)) (k : ℕ) → k < length xss → get_or (ends_of s xss) k 0 ≡ s + length (joined (take (suc k) xss))
get_or-ends s [] k lt = absurd (omega arith)
get_or-ends s (xs ∷ xss) zero lt = omega (arith, length-append xs [])
get_or-ends s (xs ∷ xss) (suc k) lt =
    let e = get_or-ends (s + length xs) xss k (omega arith) in
    omega (arith, e, length-append xs (joined (take (suc k) xss)))

ends-push : {A : Type 0} (s : ℕ) (xss : List (List A)) (ys : List A) → ends_of s (xss ++ ys ∷ []) ≡ ends_of s xss ++ ((s + length (joined xss)) + length ys) ∷ []
ends-push s [] ys = ap (λ n. (n + length ys) ∷ []) (let e : s ≡ s + 0 = omega arith in e)
ends-push s (xs ∷ xss) ys =
    let n : (s + length xs) + length (joined xss) ≡ s + length (xs ++ joined xss) = omega (arith, length-append xs (joined xss)) in
    ap (λ l. (s + length xs) ∷ l) (ends-push (s + length xs) xss ys ∙ ap (λ k. ends_of (s + length xs) xss ++ (k + length ys) ∷ []) n)

pub take-ends : {A : Type 0} (s : ℕ) (xss : List (List A)) (k : ℕ) → take k (ends_of s xss) ≡ ends_of s (take k xss)
take-ends s xss zero = refl
take-ends s [] (suc k) = refl
take-ends s (xs ∷ xss) (suc k) = ap (λ l. (s + length xs) ∷ l) (take-ends (s + length xs) xss k)

length-joined_le : {A : Type 0} (xss : List (List A)) (i j : ℕ) → i ≤ j → length (joined (take i xss)) ≤ length (joined (take j xss))
length-joined_le xss zero j le = omega arith
length-joined_le [] (suc i) zero le = absurd (omega arith)
length-joined_le [] (suc i) (suc j) le = omega arith
length-joined_le (xs ∷ xss) (suc i) zero le = absurd (omega arith)
length-joined_le (xs ∷ xss) (suc i) (suc j) le =
    let e = length-joined_le xss i j (omega arith) in
    omega (arith, e, length-append xs (joined (take i xss)), length-append xs (joined (take j xss)))

pub ends-set : {A : Type 0} (s : ℕ) (xss : List (List A)) (k : ℕ) (ys : List A) → length ys ≡ length (get_or xss k []) → ends_of s (set xss k ys) ≡ ends_of s xss
ends-set s [] k ys same = refl
ends-set s (xs ∷ xss) zero ys same = ap (λ n. (s + n) ∷ ends_of (s + n) xss) same
ends-set s (xs ∷ xss) (suc k) ys same = ap (λ l. (s + length xs) ∷ l) (ends-set (s + length xs) xss k ys same)

-- the end before a list, and its own
pub end_before : {A : Type 0} (xss : List (List A)) (k : ℕ) → 0 < k → k ≤ length xss → get_or (ends_of 0 xss) (k - 1) 0 ≡ length (joined (take k xss))
end_before xss k low le =
    let e = get_or-ends 0 xss (k - 1) (omega arith) in
    let n : suc (k - 1) ≡ k = omega arith in
    let f = ap (λ j. length (joined (take j xss))) n in
    omega (arith, e, f)

pub end_at : {A : Type 0} (xss : List (List A)) (k : ℕ) → k < length xss → get_or (ends_of 0 xss) k 0 ≡ length (joined (take k xss)) + length (get_or xss k [])
end_at xss k lt =
    let e = get_or-ends 0 xss k lt in
    let f = ap (λ j. length (joined (take j xss))) (add-one k) in
    omega (arith, e, f, length-joined_more xss k lt)

-- a list whose end is the first above an index is there
pub list_of : {A : Type 0} (xss : List (List A)) (i k : ℕ) → 0 < k → k ≤ length xss → i < length (joined xss) → ((j : ℕ) → j < k → get_or (ends_of 0 xss) j 0 ≤ i) → k < length xss
list_of xss i k low le within front =
    ⊎_elim
    (λ (lt : k < length xss). lt)
    (λ (ge : length xss ≤ k).
    let e = end_before xss k low le in
    let f = ap (λ l. length (joined l)) (take_all k xss ge) in
    absurd (omega (arith, e, f, front (k - 1) (omega arith))))
    (cases_lt k (length xss))

pub ends_rise : {A : Type 0} (xss : List (List A)) (k l : ℕ) → k ≤ l → l < length xss → get_or (ends_of 0 xss) k 0 ≤ get_or (ends_of 0 xss) l 0
ends_rise xss k l le lt =
    let a = get_or-ends 0 xss k (omega arith) in
    let b = get_or-ends 0 xss l lt in
    omega (arith, a, b, length-joined_le xss (suc k) (suc l) (omega arith))

pub ends_more : {A : Type 0} (xss : List (List A)) (i : ℕ) → i < length xss → ends_of 0 (take (i + 1) xss) ≡ ends_of 0 (take i xss) ++ (length (joined (take i xss)) + length (get_or xss i [])) ∷ []
ends_more xss i lt =
    ap (λ l. ends_of 0 l) (take_more xss i [] lt) ∙ ends-push 0 (take i xss) (get_or xss i [])
    ∙ ap (λ n. ends_of 0 (take i xss) ++ (n + length (get_or xss i [])) ∷ []) (let e : 0 + length (joined (take i xss)) ≡ length (joined (take i xss)) = omega arith in e)

pub joined_upto : {A : Type 0} (xss : List (List A)) (i : ℕ) → i < length xss → length (joined (take i xss)) + length (get_or xss i []) ≤ length (joined xss)
joined_upto xss i lt =
    let e = length-joined_more xss i lt in
    let f = ap (λ l. length (joined l)) (take_all (length xss) xss (omega arith)) in
    omega (arith, e, f, length-joined_le xss (i + 1) (length xss) (omega arith))

-- what a call that cannot fail leaves
pub ok_picks : {A E X : Type 0} (r : Result A E) (x y : X) → IsOk r → cond (is_ok r) x y ≡ x
ok_picks r x y is = ap (λ b. cond b x y) is

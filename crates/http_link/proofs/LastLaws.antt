-- The last item of a list, changed in its place.
use Rattle.std.proofs.Common.{◌≡◌, ◌+◌, ◌≤◌, ◌||◌, ◌++◌, if◌then◌else◌, ℕ, zero, suc, Bool, true, false, List, [], ◌∷◌, length, slice_index_or, slice_set, refl, sym, ap, ◌∙◌, arith}
use Rattle.http_link.specs.Links.{on_last}

pub last_set : {A : Type 0} (change : A → A) (xs : List A) (i : ℕ) (x d : A) → i + 1 ≡ length xs → x ≡ change (slice_index_or xs i d)
    → slice_set xs i x ≡ on_last change xs
unfolding on_last
last_set change [] i x d last is = absurd (omega (arith, last))
last_set change (y ∷ []) zero x d last is = ap (λ z. z ∷ []) is
last_set change (y ∷ []) (suc i) x d last is = absurd (omega (arith, last))
last_set change (y ∷ z ∷ xs) zero x d last is = absurd (omega (arith, last))
last_set change (y ∷ z ∷ xs) (suc i) x d last is = ap (λ l. y ∷ l) (last_set change (z ∷ xs) i x d (omega (arith, last)) is)

-- no item is changed
pub last_same : {A : Type 0} (change : A → A) (xs : List A) → ((x : A) → change x ≡ x) → xs ≡ on_last change xs
unfolding on_last
last_same change [] same = refl
last_same change (x ∷ []) same = ap (λ z. z ∷ []) (sym (same x))
last_same change (x ∷ y ∷ xs) same = ap (λ l. x ∷ l) (last_same change (y ∷ xs) same)

-- there is no item
pub last_none : {A : Type 0} (change : A → A) (xs : List A) → length xs ≤ 0 → xs ≡ on_last change xs
unfolding on_last
last_none change [] none = refl
last_none change (x ∷ xs) none = absurd (omega (arith, none))

pub or_true : (a b : Bool) → b ≡ true → true ≡ (a || b)
or_true true b is = refl
or_true false b is = sym is

pub or_false : (b : Bool) → b ≡ false → (a : Bool) → (a || b) ≡ a
or_false b is true = refl
or_false b is false = is

-- bytes that come behind the last list, or do not
pub last_extended : (done : Bool) (lists : List (List ℕ)) (more : List ℕ) (i : ℕ) (x d : List ℕ) → i + 1 ≡ length lists
    → x ≡ (if done then slice_index_or lists i d ++ more else slice_index_or lists i d)
    → slice_set lists i x ≡ (if done then on_last (λ before. before ++ more) lists else lists)
last_extended true lists more i x d last is = last_set (λ before. before ++ more) lists i x d last is
last_extended false lists more i x d last is =
    last_set (λ before. before) lists i x d last is ∙ sym (last_same (λ before. before) lists (λ before. refl))

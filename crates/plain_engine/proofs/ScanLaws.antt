-- The first of the rows that pass a test.
use Rattle.std.proofs.Common.{◌≡◌, ℕ, zero, suc, ◌≤◌, Bool, List, [], ◌∷◌, ◌++◌, refl, sym, ◌∙◌, ap, length, take, drop, arith}
use Rattle.std.specs.Prelude.{map, filter}
use Rattle.std.proofs.lemmas.List.{take-append-drop, length-take}
use Rattle.std.proofs.lemmas.List.Elements.{filter-append}

take_front : {A : Type 0} (m : ℕ) (xs ys : List A) → m ≤ length xs → take m (xs ++ ys) ≡ take m xs
take_front zero xs ys h = refl
take_front (suc m) [] ys h = absurd (omega arith)
take_front (suc m) (x ∷ xs) ys h = ap (λ zs. x ∷ zs) (take_front m xs ys (omega arith))

-- where m of them are found, those that come later do not count
pub first_found : {A : Type 0} (p : A → Bool) (m i : ℕ) (xs : List A) → m ≤ length (take m (filter p (take i xs))) → take m (filter p (take i xs)) ≡ take m (filter p xs)
first_found p m i xs h =
    let front = length-take m (filter p (take i xs)) in
    let enough : m ≤ length (filter p (take i xs)) = omega (arith, front, h) in
    sym (take_front m (filter p (take i xs)) (filter p (drop i xs)) enough)
    ∙ ap (take m) (sym (filter-append p (take i xs) (drop i xs)) ∙ ap (filter p) (take-append-drop i xs))

pub length_map : {A B : Type 0} (f : A → B) (xs : List A) → length (map f xs) ≡ length xs
length_map f [] = refl
length_map f (x ∷ xs) = ap suc (length_map f xs)

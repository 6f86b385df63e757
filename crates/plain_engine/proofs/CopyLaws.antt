-- A list in pieces with another item at one place.
use Rattle.std.proofs.Common.{◌≡◌, ℕ, ◌+◌, ◌-◌, ◌<◌, List, [], ◌∷◌, ◌++◌, length, take, drop, set, sym, ap, ◌∙◌, append_assoc, length-drop, arith}
use Rattle.std.proofs.lemmas.List.{take-append-drop, take-set, drop-set, take_all}

pub set_pieces : {X : Type 0} (xs : List X) (i : ℕ) (y : X) → i < length xs → (take i xs ++ y ∷ []) ++ take (length xs - (i + 1)) (drop (i + 1) xs) ≡ set xs i y
set_pieces xs i y lt =
    let long = length-drop (i + 1) xs in
    let whole : take (length xs - (i + 1)) (drop (i + 1) xs) ≡ drop (i + 1) xs = take_all (length xs - (i + 1)) (drop (i + 1) xs) (omega (arith, long)) in
    ap (λ z. (take i xs ++ y ∷ []) ++ z) whole
    ∙ append_assoc (take i xs) (y ∷ []) (drop (i + 1) xs)
    ∙ ap (λ z. take i xs ++ z) (sym (drop-set xs i y lt))
    ∙ ap (λ z. z ++ drop i (set xs i y)) (sym (take-set xs i y))
    ∙ take-append-drop i (set xs i y)

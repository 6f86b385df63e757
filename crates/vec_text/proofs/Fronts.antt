-- The texts of lists, element by element.
use Rattle.std.proofs.Common.{◌≡◌, ℕ, ◌+◌, ◌<◌, List, ◌++◌, length, take, get_or, sym, ap, ◌∙◌, append_assoc}
use Rattle.std.proofs.lemmas.List.{take_more, append-nil}
use Rattle.std.proofs.lemmas.List.Concat.{flat_map-append}
use Rattle.vec_text.specs.SeparatedTexts.{behind}

-- one element more
pub behind_more : {A : Type 0} (separator : List ℕ) (text : A → List ℕ) (xs : List A) (i : ℕ) (d : A) → i < length xs →
    (behind separator text (take i xs) ++ separator) ++ text (get_or xs i d) ≡ behind separator text (take (i + 1) xs)
behind_more separator text xs i d within =
    append_assoc (behind separator text (take i xs)) separator (text (get_or xs i d))
    ∙ sym (ap (behind separator text) (take_more xs i d within) ∙ flat_map-append (λ y. separator ++ text y) (take i xs) _
    ∙ ap (λ ys. behind separator text (take i xs) ++ ys) (append-nil _))

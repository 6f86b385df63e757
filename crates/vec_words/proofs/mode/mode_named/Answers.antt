use Rattle.std.proofs.Common.{◌≡◌, refl, inl, false, List, ℕ, codes}
use Rattle.std.specs.Prelude.{bytes_eq}
use Rattle.std.proofs.lemmas.Slice.Eq.{bytes_eq-Decides}
use Rattle.std.proofs.lemmas.Bool.{false_from_ne_true}
use Rattle.vec_words.proofs.mode.mode_named.Goals as goal

other : (word name : List ℕ) → (word ≡ name → ⊥) → bytes_eq word name ≡ false
other word name never = false_from_ne_true _ (λ e. never ((bytes_eq-Decides word name).0 e))

pub returns-in_default : goal.returns-in_default
returns-in_default c =
    let w = c.args.word.now in
    inl (rw (other w (codes "serve") c.in_default.not-serve, other w (codes "shell") c.in_default.not-shell, other w (codes "load") c.in_default.not-load, other w (codes "dump") c.in_default.not-dump, other w (codes "sample") c.in_default.not-sample) refl)

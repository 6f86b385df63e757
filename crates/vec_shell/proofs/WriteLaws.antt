-- How much of some bytes has been written: lemmas on fronts, part by part.
use Rattle.std.proofs.Common.{◌≢◌, ℕ, ◌+◌, ◌<◌, List, [], ◌∷◌, ◌++◌, length, take, drop, refl, sym, ap, ◌∙◌, subst, arith, length-drop, append_assoc}
use Rattle.std.specs.declared.option.Option.{Option}
use Rattle.std.proofs.Math.Seq.{take-add}
use Rattle.std.proofs.lemmas.List.{take-append-drop, append-nil}
use Rattle.vec_base.specs.Streams.{Gains}
use Rattle.vec_base.proofs.StreamLaws.{gains-append}
use Rattle.vec_shell.specs.inner.Sending.{CutOff}

-- a list that has an element is not empty
has_some : (xs : List ℕ) → 0 < length xs → xs ≢ []
has_some [] h = absurd (omega arith)
has_some (x ∷ xs) h = λ e. cc

-- a list that is not empty stays so with more behind it
some-append : (xs ys : List ℕ) → xs ≢ [] → xs ++ ys ≢ []
some-append [] ys ne = absurd (ne refl)
some-append (x ∷ xs) ys ne = λ e. cc

-- the first n bytes were taken, and then no more
pub cut_at : (a b c : Option (List ℕ)) (bytes : List ℕ) (n : ℕ) → n < length bytes → Gains a (take n bytes) b → Gains b [] c → CutOff a bytes c
cut_at a b c bytes n before written nothing = (
  take n bytes,
  (drop n bytes, has_some (drop n bytes) (omega (arith, length-drop n bytes)), sym (take-append-drop n bytes)),
  subst (λ (xs : List ℕ). Gains a xs c) (append-nil (take n bytes)) (gains-append a b c (take n bytes) [] written nothing),
)

-- a write goes on from the n bytes that were taken
pub written_more : (a b c : Option (List ℕ)) (bytes : List ℕ) (n m : ℕ) → Gains a (take n bytes) b → Gains b (take m (drop n bytes)) c → Gains a (take (n + m) bytes) c
written_more a b c bytes n m g h = subst (λ (xs : List ℕ). Gains a xs c) (sym (take-add n m bytes)) (gains-append a b c _ _ g h)

-- what is a proper front of some bytes is one of those with more behind them
pub cut_off_front : (a b : Option (List ℕ)) (xs ys : List ℕ) → CutOff a xs b → CutOff a (xs ++ ys) b
cut_off_front a b xs ys cut =
    (cut.0, (cut.1.0 ++ ys, some-append cut.1.0 ys cut.1.1, ap (λ zs. zs ++ ys) cut.1.2 ∙ append_assoc cut.0 cut.1.0 ys), cut.2)

-- all of the first bytes was taken, and then a proper front of the others
pub cut_off_later : (a b c : Option (List ℕ)) (xs ys : List ℕ) → Gains a xs b → CutOff b ys c → CutOff a (xs ++ ys) c
cut_off_later a b c xs ys g cut =
    (xs ++ cut.0, (cut.1.0, cut.1.1, ap (λ zs. xs ++ zs) cut.1.2 ∙ sym (append_assoc xs cut.0 cut.1.0)), gains-append a b c xs cut.0 g cut.2)

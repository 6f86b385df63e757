-- What has been handed to an output, part by part.
use Rattle.std.proofs.Common.{◌≡◌, ℕ, ◌≤◌, Bool, true, false, MatchBool, List, [], ◌++◌, refl, sym, ap, ◌∙◌, subst, arith, append_assoc}
use Rattle.std.specs.declared.option.Option.{Option}
use Rattle.std.proofs.lemmas.List.{append-nil}
use Rattle.std.proofs.lemmas.Bool.{false≢true}
use Rattle.vec_base.specs.Streams.{Rose, Gains}
use Rattle.vec_base.proofs.StreamLaws.{gains-append}
use Rattle.vec_shell.specs.declared.output.Output.{Output}
use Rattle.vec_shell.specs.inner.Puts.{Puts}
use Rattle.vec_shell.specs.inner.Sending.{CutOff, FrontTaken, Buffered}
use Rattle.vec_shell.proofs.WriteLaws.{cut_off_front, cut_off_later}

-- two ways to write the same part
pub puts_same : {a b : List ℕ} {o o' : Output} {t t' : Option (List ℕ)} {f f' : ℕ} → a ≡ b → Puts a o t f o' t' f' → Puts b o t f o' t' f'
puts_same {o = o} {o' = o'} {t = t} {t' = t'} {f = f} {f' = f'} e p = subst (λ (xs : List ℕ). Puts xs o t f o' t' f') e p

-- what an output that goes on holds, told by its flag
front_if : (g : Bool) (base : Option (List ℕ)) (start : ℕ) (bytes held : List ℕ) (t : Option (List ℕ)) (f : ℕ) → g ≡ true → FrontTaken base bytes held t → MatchBool g (FrontTaken base bytes held t) (CutOff base bytes t × Rose start f)
front_if true base start bytes held t f e h = h
front_if false base start bytes held t f e h = absurd (false≢true e)

front_of : (g : Bool) (base : Option (List ℕ)) (start : ℕ) (bytes held : List ℕ) (t : Option (List ℕ)) (f : ℕ) → g ≡ true → MatchBool g (FrontTaken base bytes held t) (CutOff base bytes t × Rose start f) → FrontTaken base bytes held t
front_of true base start bytes held t f e h = h
front_of false base start bytes held t f e h = absurd (false≢true e)

-- the output holds a further part
pub buffered_held : (o o' : Output) (part : List ℕ) (base : Option (List ℕ)) (start : ℕ) (bytes : List ℕ) (t : Option (List ℕ)) (f : ℕ) → o.going ≡ true → o'.going ≡ true → o'.held ≡ o.held ++ part → Buffered base start bytes o t f → Buffered base start (bytes ++ part) o' t f
buffered_held o o' part base start bytes t f going going' held h = record {
  later = h.later;
  written =
      let old = front_of o.going base start bytes o.held t f going h.written in
      front_if o'.going base start (bytes ++ part) o'.held t f going' (
        old.0,
        ap (λ xs. xs ++ part) old.1 ∙ append_assoc old.0 o.held part ∙ ap (λ xs. old.0 ++ xs) (sym held),
        old.2,
      );
}

-- the sink was given what was held
written_flushed : (g : Bool) (base : Option (List ℕ)) (start : ℕ) (bytes held held' : List ℕ) (t t' : Option (List ℕ)) (f f' : ℕ) → held' ≡ [] → start ≤ f → FrontTaken base bytes held t → MatchBool g (Gains t held t') (CutOff t held t' × Rose f f') → MatchBool g (FrontTaken base bytes held' t') (CutOff base bytes t' × Rose start f')
written_flushed true base start bytes held held' t t' f f' none later h taken = (
  bytes,
  sym (ap (λ xs. bytes ++ xs) none ∙ append-nil bytes),
  subst (λ (xs : List ℕ). Gains base xs t') (sym h.1) (gains-append base t t' h.0 held h.2 taken),
)
written_flushed false base start bytes held held' t t' f f' none later h cut = (
  subst (λ (xs : List ℕ). CutOff base xs t') (sym h.1) (cut_off_later base t t' h.0 held h.2 cut.0),
  omega (arith, cut.1),
)

pub buffered_flushed : (o o' : Output) (base : Option (List ℕ)) (start : ℕ) (bytes : List ℕ) (t t' : Option (List ℕ)) (f f' : ℕ) → o.going ≡ true → o'.held ≡ [] → MatchBool o'.going (Gains t o.held t') (CutOff t o.held t' × Rose f f') → f ≤ f' → Buffered base start bytes o t f → Buffered base start bytes o' t' f'
buffered_flushed o o' base start bytes t t' f f' going none taken later h = record {
  later = omega (arith, h.later);
  written = written_flushed o'.going base start bytes o.held o'.held t t' f f' none h.later (front_of o.going base start bytes o.held t f going h.written) taken;
}

-- a part was written while nothing was held
pub buffered_passed : (o o' : Output) (part : List ℕ) (base : Option (List ℕ)) (start : ℕ) (bytes : List ℕ) (t t' : Option (List ℕ)) (f f' : ℕ) → o.going ≡ true → o.held ≡ [] → o'.held ≡ [] → MatchBool o'.going (Gains t part t') (CutOff t part t' × Rose f f') → f ≤ f' → Buffered base start bytes o t f → Buffered base start (bytes ++ part) o' t' f'
buffered_passed o o' part base start bytes t t' f f' going none none' taken later h =
    let mid : Output = record { held = part; going = true } in
    buffered_flushed mid o' base start (bytes ++ part) t t' f f' refl none' taken later
    (buffered_held o mid part base start bytes t f going refl (ap (λ xs. xs ++ part) (sym none)) h)

-- after a fault nothing more is written
written_off : (g : Bool) (base : Option (List ℕ)) (start : ℕ) (bytes part held : List ℕ) (t : Option (List ℕ)) (f : ℕ) → g ≡ false → MatchBool g (FrontTaken base bytes held t) (CutOff base bytes t × Rose start f) → MatchBool g (FrontTaken base (bytes ++ part) held t) (CutOff base (bytes ++ part) t × Rose start f)
written_off true base start bytes part held t f e h = absurd (false≢true (sym e))
written_off false base start bytes part held t f e h = (cut_off_front base t bytes part h.0, h.1)

pub puts_off : (o : Output) (part : List ℕ) (t : Option (List ℕ)) (f : ℕ) → o.going ≡ false → Puts part o t f o t f
puts_off o part t f off = record {
  adds = λ base start bytes h. record {
    later = h.later;
    written = written_off o.going base start bytes part o.held t f off h.written;
  };
}

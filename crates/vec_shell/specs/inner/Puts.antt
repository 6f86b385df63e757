-- What a part adds to an output in front of its sink.
use Rattle.std.specs.Prelude.{ℕ, List, [], ◌++◌}
use Rattle.std.specs.declared.option.Option.{Option}
use Rattle.std.proofs.Common.{sym, subst, append_assoc}
use Rattle.std.proofs.lemmas.List.{append-nil}
use Rattle.vec_shell.specs.declared.output.Output.{Output}
use Rattle.vec_shell.specs.inner.Sending.{Buffered}

-- Whatever was handed to the output before, it has been handed with this part behind it.
pub record Puts (part : List ℕ) (old : Output) (taken : Option (List ℕ)) (faults : ℕ) (new : Output) (taken' : Option (List ℕ)) (faults' : ℕ) : Type 0 where
  pub adds : (base : Option (List ℕ)) (start : ℕ) (bytes : List ℕ) → Buffered base start bytes old taken faults → Buffered base start (bytes ++ part) new taken' faults'

-- the two laws of what takes a text

pub puts_none : {o : Output} {t : Option (List ℕ)} {f : ℕ} → Puts [] o t f o t f
puts_none {o = o} {t = t} {f = f} = record { adds = λ base start bytes h. subst (λ (xs : List ℕ). Buffered base start xs o t f) (sym (append-nil bytes)) h }

pub puts_both : {a b : List ℕ} {o o' o'' : Output} {t t' t'' : Option (List ℕ)} {f f' f'' : ℕ} → Puts a o t f o' t' f' → Puts b o' t' f' o'' t'' f'' → Puts (a ++ b) o t f o'' t'' f''
puts_both {a = a} {b = b} {o'' = o''} {t'' = t''} {f'' = f''} p q = record {
  adds = λ base start bytes h.
      subst (λ (xs : List ℕ). Buffered base start xs o'' t'' f'') (append_assoc bytes a b) (q.adds base start (bytes ++ a) (p.adds base start bytes h));
}

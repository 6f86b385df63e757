-- Where cursors stand.
use Rattle.std.proofs.Common.{◌≡◌, ℕ, suc, ◌+◌, ◌<◌, false, List, ◌∷◌, length, refl, sym, ap, ◌∙◌, subst, arith, add-one}
use Rattle.std.specs.Prelude.{◌==◌}
use Rattle.std.proofs.lemmas.Bool.{eq-eqb}
use Rattle.txn_sessions.specs.declared.session.OpenCursor.{OpenCursor}
use Rattle.txn_sessions.specs.Lookups.{IsCursor}
use Rattle.txn_sessions.specs.Seen.{cursor_seen}

pub cursor_first : (number : ℕ) (c : OpenCursor) (cs : List OpenCursor) → c.number ≡ number → IsCursor number (c ∷ cs) 0
cursor_first number c cs e = record {
  within = omega arith;
  is = λ shelf. rw (eq-eqb c.number number e) refl;
  put = λ shelf new own. rw (eq-eqb c.number new.number (e ∙ sym own)) refl;
  gone = λ shelf. rw (eq-eqb c.number number e) refl;
  own = e;
}

cursor_next : (number : ℕ) (c : OpenCursor) (cs : List OpenCursor) (at : ℕ) → (c.number == number) ≡ false → IsCursor number cs at → IsCursor number (c ∷ cs) (suc at)
cursor_next number c cs at other a = record {
  within = let h : at < length cs = a.within in omega arith;
  is = λ shelf. rw other (a.is shelf);
  put = λ shelf new own.
      let here : (c.number == new.number) ≡ false = ap (λ n. c.number == n) own ∙ other in
      rw here (ap (λ xs. cursor_seen shelf c ∷ xs) (a.put shelf new own));
  gone = λ shelf. rw other (ap (λ xs. cursor_seen shelf c ∷ xs) (a.gone shelf));
  own = a.own;
}

pub cursor_later : (number : ℕ) (c : OpenCursor) (cs : List OpenCursor) (at : ℕ) → (c.number == number) ≡ false → IsCursor number cs at → IsCursor number (c ∷ cs) (at + 1)
cursor_later number c cs at other a = subst (λ n. IsCursor number (c ∷ cs) n) (sym (add-one at)) (cursor_next number c cs at other a)

-- Where sessions, marks and cursors stand.
use Rattle.std.proofs.Common.{◌≡◌, ℕ, suc, ◌<◌, ◌+◌, Bool, true, false, List, [], ◌∷◌, length, bytes_eq, Some, None, refl, sym, ap, ◌∙◌, subst, arith, add-one}
use Rattle.std.specs.Prelude.{◌==◌, ◌||◌, if◌then◌else◌}
use Rattle.std.proofs.lemmas.Bool.{eq-eqb}
use Rattle.row_model.specs.declared.state.CursorRows.{CursorRows}
use Rattle.row_model.specs.declared.state.Mark.{Mark}
use Rattle.row_model.specs.declared.state.Session.{Session}
use Rattle.row_model.specs.Machine.{has_mark, newest_mark}
use Rattle.plain_engine.specs.inner.Machines.{IsOfId, session_in}
use Rattle.plain_engine.specs.inner.Places.{IsCursorAt, IsMarkAt}

-- ---- sessions

pub session_first : (id : ℕ) (s : Session) (ss : List Session) → s.id ≡ id → IsOfId id (s ∷ ss) 0
session_first id s ss e = record {
  first = record {
    within = omega arith;
    put = λ new own. rw (eq-eqb s.id new.id (sym own)) refl;
    gone = rw (eq-eqb s.id s.id refl) refl;
  };
  same = e;
  is = rw (eq-eqb s.id id e) refl;
}

session_next : (id : ℕ) (s : Session) (ss : List Session) (at : ℕ) → (s.id == id) ≡ false → IsOfId id ss at → IsOfId id (s ∷ ss) (suc at)
session_next id s ss at other a = record {
  first = record {
    within = let h : at < length ss = a.first.within in omega arith;
    put = λ new own.
        let here : (s.id == new.id) ≡ false = ap (λ n. s.id == n) (own ∙ a.same) ∙ other in
        rw here (ap (λ xs. s ∷ xs) (a.first.put new own));
    gone =
        let here : (s.id == (session_in ss at).id) ≡ false = ap (λ n. s.id == n) a.same ∙ other in
        rw here (ap (λ xs. s ∷ xs) a.first.gone);
  };
  same = a.same;
  is = rw other a.is;
}

pub session_later : (id : ℕ) (s : Session) (ss : List Session) (at : ℕ) → (s.id == id) ≡ false → IsOfId id ss at → IsOfId id (s ∷ ss) (at + 1)
session_later id s ss at other a = subst (λ n. IsOfId id (s ∷ ss) n) (sym (add-one at)) (session_next id s ss at other a)

-- ---- marks

true_false : true ≡ false → ⊥
true_false h = cc

some_none : {A : Type 0} (a : A) → Some a ≡ None → ⊥
some_none a h = cc

no-newest : (name : List ℕ) (ms : List Mark) → has_mark name ms ≡ false → newest_mark name ms ≡ None
no-newest name [] h = refl
no-newest name (m ∷ ms) h = at (has_mark name ms) (bytes_eq m.name name) h
  where
    at : (later here : Bool) → (here || later) ≡ false → (if later then newest_mark name ms else (if here then Some m else None)) ≡ None
    at true true e = absurd (true_false e)
    at true false e = absurd (true_false e)
    at false true e = absurd (true_false e)
    at false false e = refl

has-newest : (name : List ℕ) (ms : List Mark) (m : Mark) → newest_mark name ms ≡ Some m → has_mark name ms ≡ true
has-newest name ms m h = at (has_mark name ms) refl
  where
    at : (b : Bool) → has_mark name ms ≡ b → b ≡ true
    at true e = refl
    at false e = absurd (some_none m (sym h ∙ no-newest name ms e))

has-none : (name : List ℕ) (ms : List Mark) → newest_mark name ms ≡ None → has_mark name ms ≡ false
has-none name [] h = refl
has-none name (m ∷ ms) h = at (has_mark name ms) (bytes_eq m.name name) (has-none name ms) h
  where
    at : (later here : Bool) → (newest_mark name ms ≡ None → later ≡ false) → (if later then newest_mark name ms else (if here then Some m else None)) ≡ None → (here || later) ≡ false
    at true here below e = absurd (true_false (below e))
    at false true below e = absurd (some_none m e)
    at false false below e = refl

pub mark_first : (name : List ℕ) (m : Mark) (ms : List Mark) → bytes_eq m.name name ≡ true → newest_mark name ms ≡ None → IsMarkAt name (m ∷ ms) 0
mark_first name m ms here none = record {
  within = omega arith;
  is = λ d. rw (has-none name ms none, here) refl;
  upto = rw (has-none name ms none, here) refl;
  before = rw (has-none name ms none) refl;
}

mark_next : (name : List ℕ) (m : Mark) (ms : List Mark) (at : ℕ) → IsMarkAt name ms at → IsMarkAt name (m ∷ ms) (suc at)
mark_next name m ms at a = record {
  within = let h : at < length ms = a.within in omega arith;
  is = λ d. rw (has-newest name ms _ (a.is d)) (a.is d);
  upto = rw (has-newest name ms _ (a.is m)) (ap (λ xs. m ∷ xs) a.upto);
  before = rw (has-newest name ms _ (a.is m)) (ap (λ xs. m ∷ xs) a.before);
}

pub mark_later : (name : List ℕ) (m : Mark) (ms : List Mark) (at : ℕ) → IsMarkAt name ms at → IsMarkAt name (m ∷ ms) (at + 1)
mark_later name m ms at a = subst (λ n. IsMarkAt name (m ∷ ms) n) (sym (add-one at)) (mark_next name m ms at a)

pub mark_none : (name : List ℕ) (m : Mark) (ms : List Mark) → bytes_eq m.name name ≡ false → newest_mark name ms ≡ None → newest_mark name (m ∷ ms) ≡ None
mark_none name m ms other none = rw (has-none name ms none, other) refl

-- ---- cursors

pub cursor_first : (number : ℕ) (c : CursorRows) (cs : List CursorRows) → c.number ≡ number → IsCursorAt number (c ∷ cs) 0
cursor_first number c cs e = record {
  within = omega arith;
  is = λ d. rw (eq-eqb c.number number e) refl;
  same = λ d. e;
  put = λ new own. rw (eq-eqb c.number new.number (e ∙ sym own)) refl;
  gone = rw (eq-eqb c.number number e) refl;
}

cursor_next : (number : ℕ) (c : CursorRows) (cs : List CursorRows) (at : ℕ) → (c.number == number) ≡ false → IsCursorAt number cs at → IsCursorAt number (c ∷ cs) (suc at)
cursor_next number c cs at other a = record {
  within = let h : at < length cs = a.within in omega arith;
  is = λ d. rw other (a.is d);
  same = a.same;
  put = λ new own.
      let here : (c.number == new.number) ≡ false = ap (λ n. c.number == n) own ∙ other in
      rw here (ap (λ xs. c ∷ xs) (a.put new own));
  gone = rw other (ap (λ xs. c ∷ xs) a.gone);
}

pub cursor_later : (number : ℕ) (c : CursorRows) (cs : List CursorRows) (at : ℕ) → (c.number == number) ≡ false → IsCursorAt number cs at → IsCursorAt number (c ∷ cs) (at + 1)
cursor_later number c cs at other a = subst (λ n. IsCursorAt number (c ∷ cs) n) (sym (add-one at)) (cursor_next number c cs at other a)

-- Where sessions and marks stand.
use Rattle.std.proofs.Common.{◌≡◌, ℕ, suc, ◌+◌, ◌<◌, Bool, true, false, List, [], ◌∷◌, length, map, Some, None, refl, sym, ap, ◌∙◌, subst, arith, add-one}
use Rattle.std.specs.Prelude.{◌==◌, ◌||◌, bytes_eq, if◌then◌else◌}
use Rattle.std.proofs.lemmas.Bool.{eq-eqb, false≢true}
use Rattle.row_model.specs.declared.state.Mark.{Mark as MarkOf}
use Rattle.row_model.specs.Machine.{has_mark, newest_mark}
use Rattle.txn_sessions.specs.declared.session.Mark.{Mark}
use Rattle.txn_sessions.specs.declared.session.OpenSession.{OpenSession}
use Rattle.txn_sessions.specs.Lookups.{IsMark, IsOfId}
use Rattle.txn_sessions.specs.Sessions.{open_at}
use Rattle.txn_sessions.specs.Seen.{Versions, mark_seen, session_seen}

-- ---- sessions

pub at_first : (id : ℕ) (s : OpenSession) (ss : List OpenSession) → s.id ≡ id → IsOfId id (s ∷ ss) 0
at_first id s ss e = record {
  first = record {
    within = omega arith;
    put = λ shelf new own. rw (eq-eqb s.id new.id (sym own)) refl;
    gone = λ shelf. rw (eq-eqb s.id s.id refl) refl;
  };
  same = e;
  is = λ shelf. rw (eq-eqb s.id id e) refl;
}

at_next : (id : ℕ) (s : OpenSession) (ss : List OpenSession) (at : ℕ) → (s.id == id) ≡ false → IsOfId id ss at → IsOfId id (s ∷ ss) (suc at)
at_next id s ss at other a = record {
  first = record {
    within = let h : at < length ss = a.first.within in omega arith;
    put = λ shelf new own.
        let here : (s.id == new.id) ≡ false = ap (λ n. s.id == n) (own ∙ a.same) ∙ other in
        rw here (ap (λ xs. session_seen shelf s ∷ xs) (a.first.put shelf new own));
    gone = λ shelf.
        let here : (s.id == (open_at ss at).id) ≡ false = ap (λ n. s.id == n) a.same ∙ other in
        rw here (ap (λ xs. session_seen shelf s ∷ xs) (a.first.gone shelf));
  };
  same = a.same;
  is = λ shelf. rw other (a.is shelf);
}

pub at_later : (id : ℕ) (s : OpenSession) (ss : List OpenSession) (at : ℕ) → (s.id == id) ≡ false → IsOfId id ss at → IsOfId id (s ∷ ss) (at + 1)
at_later id s ss at other a = subst (λ n. IsOfId id (s ∷ ss) n) (sym (add-one at)) (at_next id s ss at other a)

-- ---- marks

pub no-newest : (name : List ℕ) (ms : List MarkOf) → has_mark name ms ≡ false → newest_mark name ms ≡ None
no-newest name [] h = refl
no-newest name (m ∷ ms) h = at (has_mark name ms) (bytes_eq m.name name) h
  where
    at : (later here : Bool) → (here || later) ≡ false → (if later then newest_mark name ms else (if here then Some m else None)) ≡ None
    at true true e = absurd (false≢true (sym e))
    at true false e = absurd (false≢true (sym e))
    at false true e = absurd (false≢true (sym e))
    at false false e = refl

some_none : {A : Type 0} (a : A) → Some a ≡ None → ⊥
some_none a h = cc

pub has-newest : (name : List ℕ) (ms : List MarkOf) (m : MarkOf) → newest_mark name ms ≡ Some m → has_mark name ms ≡ true
has-newest name ms m h = at (has_mark name ms) refl
  where
    at : (b : Bool) → has_mark name ms ≡ b → b ≡ true
    at true e = refl
    at false e = absurd (some_none m (sym h ∙ no-newest name ms e))

pub has-none : (name : List ℕ) (ms : List MarkOf) → newest_mark name ms ≡ None → has_mark name ms ≡ false
has-none name [] h = refl
has-none name (m ∷ ms) h = at (has_mark name ms) (bytes_eq m.name name) (has-none name ms) h
  where
    at : (later here : Bool) → (newest_mark name ms ≡ None → later ≡ false) → (if later then newest_mark name ms else (if here then Some m else None)) ≡ None → (here || later) ≡ false
    at true here below e = absurd (false≢true (sym (below e)))
    at false true below e = absurd (some_none m e)
    at false false below e = refl

pub mark_first : (name : List ℕ) (m : Mark) (ms : List Mark) → bytes_eq m.name name ≡ true → ((shelf : Versions) → newest_mark name (map (mark_seen shelf) ms) ≡ None) → IsMark name (m ∷ ms) 0
mark_first name m ms here none = record {
  within = omega arith;
  is = λ shelf. rw (has-none name (map (mark_seen shelf) ms) (none shelf), here) refl;
  upto = λ shelf. rw (has-none name (map (mark_seen shelf) ms) (none shelf), here) refl;
  before = λ shelf. rw (has-none name (map (mark_seen shelf) ms) (none shelf)) refl;
}

mark_next : (name : List ℕ) (m : Mark) (ms : List Mark) (at : ℕ) → IsMark name ms at → IsMark name (m ∷ ms) (suc at)
mark_next name m ms at a = record {
  within = let h : at < length ms = a.within in omega arith;
  is = λ shelf. rw (has-newest name (map (mark_seen shelf) ms) _ (a.is shelf)) (a.is shelf);
  upto = λ shelf. rw (has-newest name (map (mark_seen shelf) ms) _ (a.is shelf)) (ap (λ xs. mark_seen shelf m ∷ xs) (a.upto shelf));
  before = λ shelf. rw (has-newest name (map (mark_seen shelf) ms) _ (a.is shelf)) (ap (λ xs. mark_seen shelf m ∷ xs) (a.before shelf));
}

pub mark_later : (name : List ℕ) (m : Mark) (ms : List Mark) (at : ℕ) → IsMark name ms at → IsMark name (m ∷ ms) (at + 1)
mark_later name m ms at a = subst (λ n. IsMark name (m ∷ ms) n) (sym (add-one at)) (mark_next name m ms at a)

pub mark_none : (name : List ℕ) (m : Mark) (ms : List Mark) → bytes_eq m.name name ≡ false → ((shelf : Versions) → newest_mark name (map (mark_seen shelf) ms) ≡ None) →
    (shelf : Versions) → newest_mark name (map (mark_seen shelf) (m ∷ ms)) ≡ None
mark_none name m ms other none shelf = rw (has-none name (map (mark_seen shelf) ms) (none shelf), other) refl

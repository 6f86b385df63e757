-- What a touch leaves touched.
use Rattle.std.proofs.Common.{◌≡◌, ℕ, ℤ, int_lt, Bool, true, false, cond, if◌then◌else◌, List, [], ◌∷◌, refl, sym, ap, ◌∙◌, subst, Some, Ok, Err}
use Rattle.std.specs.Prelude.{◌&&◌, ◌||◌, ◌==◌, is_some, is_ok, OnOk, OnErr}
use Rattle.std.specs.Option.{option_map}
use Rattle.std.specs.Ordering.{int_eq}
use Rattle.std.specs.declared.result.Result.{Result}
use Rattle.std.proofs.lemmas.Bool.{cond-true}
use Rattle.vec_base.specs.declared.memory.Memory.{Memory}
use Rattle.vec_base.specs.declared.value.Value.{Value}
use Rattle.row_index.specs.Entries.{has_rowid, place_of, entry_of, with_entry}
use Rattle.row_index.specs.declared.entry.Entry.{Entry}
use Rattle.slot_alloc.specs.Changes.{UsesAlso}
use Rattle.slot_alloc.specs.Places.{PlaceMap, partition_at, is_used}
use Rattle.row_store.specs.inner.Widening.{KeepsRows, KeepsPlaces, HavePlainValues}
use Rattle.row_store.proofs.TieLaws.{same_place, eq_to}

abbrev place_in : Entry → ℕ × ℕ
place_in x = (x.chunk, x.slot)

pub place-some : (i : ℤ) (es : List Entry) → is_some (place_of i es) ≡ has_rowid i es
place-some i [] = refl
place-some i (e ∷ es) = by_test (int_eq e.rowid i) (place-some i es) where
  by_test : (t : Bool) → is_some (place_of i es) ≡ has_rowid i es → is_some {T = ℕ × ℕ} (option_map place_in (cond t (Some e) (entry_of i es))) ≡ (t || has_rowid i es)
  by_test true rest = refl
  by_test false rest = rest

or_left : (a b : Bool) → a ≡ true → (a || b) ≡ true
or_left true b e = refl
or_left false b e = absurd cc

or_right : (a b : Bool) → b ≡ true → (a || b) ≡ true
or_right true b e = refl
or_right false b e = e

pub has-with : (i : ℤ) (e : Entry) (es : List Entry) → has_rowid i (with_entry e es) ≡ (int_eq e.rowid i || has_rowid i es)
has-with i e [] = refl
has-with i e (x ∷ xs) = by_order (int_lt e.rowid x.rowid) (has-with i e xs) where
  swap : (a b c : Bool) → (a || (b || c)) ≡ (b || (a || c))
  swap true true c = refl
  swap true false c = refl
  swap false true c = refl
  swap false false c = refl

  by_order : (t : Bool) → has_rowid i (with_entry e xs) ≡ (int_eq e.rowid i || has_rowid i xs) → has_rowid i (if t then e ∷ x ∷ xs else x ∷ with_entry e xs) ≡ (int_eq e.rowid i || (int_eq x.rowid i || has_rowid i xs))
  by_order true rest = refl
  by_order false rest = ap (λ b. int_eq x.rowid i || b) rest ∙ swap (int_eq x.rowid i) (int_eq e.rowid i) (has_rowid i xs)

pub keeps-put : (b : Bool) (e : Entry) (old new : List Entry) → new ≡ (if b then with_entry e old else old) → KeepsRows old new
keeps-put true e old new is = λ i h. ap (has_rowid i) is ∙ has-with i e old ∙ or_right (int_eq e.rowid i) (has_rowid i old) h
keeps-put false e old new is = λ i h. ap (has_rowid i) is ∙ h

pub has-put : (e : Entry) (old new : List Entry) → new ≡ with_entry e old → has_rowid e.rowid new ≡ true
has-put e old new is = ap (has_rowid e.rowid) is ∙ has-with e.rowid e old ∙ or_left (int_eq e.rowid e.rowid) (has_rowid e.rowid old) (eq_to e.rowid e.rowid refl)

pub used-also : (old new : PlaceMap) (c s : ℕ) (values : List Value) → UsesAlso old c s values new → is_used new c s ≡ true
used-also old new c s values also = ap is_some (also.places c s ∙ cond-true _ _ _ (same_place c s))

keeps-also : (old new : PlaceMap) (c s : ℕ) (values : List Value) → UsesAlso old c s values new → KeepsPlaces old new
keeps-also old new c s values also = record { size = also.size; used = λ d t h. ap is_some (also.places d t) ∙ by_test d t h (d == c && t == s) } where
  by_test : (d t : ℕ) → is_used old d t ≡ true → (b : Bool) → is_some {T = List Value} (cond b (Some values) (partition_at old d t)) ≡ true
  by_test d t h true = refl
  by_test d t h false = h

plain-also : (old new : PlaceMap) (c s : ℕ) → HavePlainValues old → UsesAlso old c s [] new → HavePlainValues new
plain-also old new c s plain also = λ d t values is. by_test d t values (d == c && t == s) (sym (also.places d t) ∙ is) where
  by_test : (d t : ℕ) (values : List Value) (b : Bool) → cond b (Some []) (partition_at old d t) ≡ Some values → values ≡ []
  by_test d t values true is = let e : [] ≡ values = cc in sym e
  by_test d t values false is = plain d t values is

-- the same, whether there was memory or not
pub keeps-occupied : (r : Result Unit Memory) (old new : PlaceMap) (c s : ℕ) (values : List Value) → OnErr r (new ≡ old) → OnOk r (UsesAlso old c s values new) → KeepsPlaces old new
keeps-occupied (Ok u) old new c s values kept also = keeps-also old new c s values also
keeps-occupied (Err e) old new c s values kept also = record { size = ap (λ p. p.size) kept; used = λ d t h. ap (λ p. is_used p d t) kept ∙ h }

pub plain-occupied : (r : Result Unit Memory) (old new : PlaceMap) (c s : ℕ) → HavePlainValues old → OnErr r (new ≡ old) → OnOk r (UsesAlso old c s [] new) → HavePlainValues new
plain-occupied (Ok u) old new c s plain kept also = plain-also old new c s plain also
plain-occupied (Err e) old new c s plain kept also = subst HavePlainValues (sym kept) plain

pub put-given : (r : Result Unit Memory) (e : Entry) (old new : List Entry) → new ≡ (if is_ok r then with_entry e old else old) → OnOk r (has_rowid e.rowid new ≡ true)
put-given (Ok u) e old new is = has-put e old new is
put-given (Err x) e old new is = tt

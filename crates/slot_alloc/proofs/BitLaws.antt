-- What searches in bits have found.
use Rattle.std.proofs.Common.{◌≡◌, ℕ, zero, suc, ◌+◌, ◌-◌, ◌<◌, ◌≤◌, Bool, true, false, not, cond, List, [], ◌∷◌, length, get_or, drop, Option, Some, None, MatchOption, refl, sym, ap, ◌∙◌, ⊎_elim, arith}
use Rattle.std.specs.List.{position_from}
use Rattle.std.proofs.lemmas.Bool.{cases_lt, false≢true}
use Rattle.std.proofs.lemmas.List.{get_or-drop, length-drop, get_or_past}
use Rattle.chunk_bitmap.specs.BitsOfBytes.{first_clear_of, next_set_of}

-- the first bit of a list that passes a test
pub record IsFirst (test : Bool → Bool) (bits : List Bool) (k : ℕ) : Type 0 where
  pub within : k < length bits
  pub passes : test (get_or bits k false) ≡ true
  pub before : (j : ℕ) → j < k → test (get_or bits j false) ≡ false

-- it stands at a place that is counted from another
pub record IsFirstFrom (test : Bool → Bool) (from : ℕ) (bits : List Bool) (k : ℕ) : Type 0 where
  pub later : from ≤ k
  pub first : IsFirst test bits (k - from)

first_more : (test : Bool → Bool) (from : ℕ) (x : Bool) (xs : List Bool) (k : ℕ) → test x ≡ false → IsFirstFrom test (from + 1) xs k → IsFirstFrom test from (x ∷ xs) k
first_more test from x xs k fails f =
    let n : k - from ≡ suc (k - (from + 1)) = (let l = f.later in omega (arith, l)) in
    let more : IsFirst test (x ∷ xs) (suc (k - (from + 1))) = record { within = (let w = f.first.within in omega (arith, w)); passes = f.first.passes; before = before } in
    record { later = (let l = f.later in omega (arith, l)); first = along (sym n) more }
  where
    before : (j : ℕ) → j < suc (k - (from + 1)) → test (get_or (x ∷ xs) j false) ≡ false
    before zero lt = fails
    before (suc j) lt = f.first.before j (omega (arith, lt))

    along : {m n : ℕ} → m ≡ n → IsFirst test (x ∷ xs) m → IsFirst test (x ∷ xs) n
    along e h = rw (sym e) h

found_by : (test : Bool → Bool) (from : ℕ) (x : Bool) (xs : List Bool) (k : ℕ) (b : Bool) → test x ≡ b → cond b (Some from) (position_from test (from + 1) xs) ≡ Some k →
    (position_from test (from + 1) xs ≡ Some k → IsFirstFrom test (from + 1) xs k) → IsFirstFrom test from (x ∷ xs) k
found_by test from x xs k true t f rest =
    let same : from ≡ k = cc in
    let n : k - from ≡ 0 = omega (arith, same) in
    record { later = omega (arith, same); first = rw n (record { within = omega arith; passes = t; before = λ j lt. absurd (omega (arith, lt)) }) }
found_by test from x xs k false t f rest = first_more test from x xs k t (rest f)

first_found : (test : Bool → Bool) (from : ℕ) (bits : List Bool) (k : ℕ) → position_from test from bits ≡ Some k → IsFirstFrom test from bits k
first_found test from [] k e = absurd cc
first_found test from (x ∷ xs) k e = found_by test from x xs k (test x) refl e (first_found test (from + 1) xs k)

none_by : (test : Bool → Bool) (from : ℕ) (x : Bool) (xs : List Bool) (b : Bool) → test x ≡ b → cond b (Some from) (position_from test (from + 1) xs) ≡ None →
    (position_from test (from + 1) xs ≡ None → (j : ℕ) → j < length xs → test (get_or xs j false) ≡ false) → (j : ℕ) → j < length (x ∷ xs) → test (get_or (x ∷ xs) j false) ≡ false
none_by test from x xs true t f rest j lt = absurd cc
none_by test from x xs false t f rest zero lt = t
none_by test from x xs false t f rest (suc j) lt = rest f j (omega (arith, lt))

none_found : (test : Bool → Bool) (from : ℕ) (bits : List Bool) → position_from test from bits ≡ None → (j : ℕ) → j < length bits → test (get_or bits j false) ≡ false
none_found test from [] e j lt = absurd (omega (arith, lt))
none_found test from (x ∷ xs) e j lt = none_by test from x xs (test x) refl e (none_found test (from + 1) xs) j lt

not_true : (b : Bool) → not b ≡ true → b ≡ false
not_true true e = sym e
not_true false e = refl

not_false : (b : Bool) → not b ≡ false → b ≡ true
not_false true e = refl
not_false false e = sym e

-- the least slot that is free
pub least_free : (bits : List Bool) (r : Option ℕ) → r ≡ first_clear_of bits → MatchOption r
    ((t : ℕ) → t < length bits → get_or bits t false ≡ true)
    (λ free. (free < length bits) × (get_or bits free false ≡ false) × ((t : ℕ) → t < free → get_or bits t false ≡ true))
least_free bits None e = λ t lt. not_false _ (none_found not 0 bits (sym e) t lt)
least_free bits (Some k) e =
    let f = first_found not 0 bits k (sym e) in
    let n : k - 0 ≡ k = omega arith in
    let first : IsFirst not bits k = rw n at f.first in
    (first.within, not_true _ first.passes, λ t lt. not_false _ (first.before t lt))

-- a bit that is true stands in the list
pub inside : (bits : List Bool) (t : ℕ) → get_or bits t false ≡ true → t < length bits
inside bits t is =
    ⊎_elim
    (λ (lt : t < length bits). lt)
    (λ (ge : length bits ≤ t). absurd (false≢true (sym (get_or_past bits t false ge) ∙ is)))
    (cases_lt t (length bits))

-- no bit is true
pub all_clear : (bits : List Bool) (slot : ℕ) → next_set_of 0 bits ≡ None → (t : ℕ) → get_or bits t false ≡ true → t ≡ slot
all_clear bits slot e t is = absurd (false≢true (sym (none_found (λ b. b) 0 bits e t (inside bits t is)) ∙ is))

-- the first bit that is true
pub first_set : (bits : List Bool) (k : ℕ) → next_set_of 0 bits ≡ Some k → IsFirst (λ b. b) bits k
first_set bits k e =
    let f = first_found (λ b. b) 0 bits k e in
    let n : k - 0 ≡ k = omega arith in
    rw n at f.first

only_set : (bits : List Bool) (slot : ℕ) → slot < length bits → next_set_of 0 bits ≡ Some slot → None ≡ next_set_of (slot + 1) bits → (t : ℕ) → get_or bits t false ≡ true → t ≡ slot
only_set bits slot lt e f t is =
    ⊎_elim
    (λ (low : t < slot). absurd (false≢true (sym ((first_set bits slot e).before t low) ∙ is)))
    (λ (high : slot ≤ t).
    ⊎_elim
    (λ (late : slot < t).
    let within = inside bits t is in
    let at : slot + 1 + (t - (slot + 1)) ≡ t = omega (arith, late) in
    let none = none_found (λ b. b) (slot + 1) (drop (slot + 1) bits) (sym f) (t - (slot + 1)) (omega (arith, late, within, length-drop (slot + 1) bits)) in
    absurd (false≢true (sym none ∙ get_or-drop (slot + 1) bits (t - (slot + 1)) false ∙ ap (λ n. get_or bits n false) at ∙ is)))
    (λ (same : t ≤ slot). let e : t ≡ slot = omega (arith, high, same) in e)
    (cases_lt slot t))
    (cases_lt t slot)

-- a bit behind the first one that is true
pub another_set : (bits : List Bool) (slot : ℕ) (r : Option ℕ) → slot < length bits → next_set_of 0 bits ≡ Some slot → r ≡ next_set_of (slot + 1) bits → MatchOption r
    ((t : ℕ) → get_or bits t false ≡ true → t ≡ slot)
    (λ other. (other ≡ slot → ⊥) × (get_or bits other false ≡ true))
another_set bits slot None lt e f = only_set bits slot lt e f
another_set bits slot (Some other) lt e f =
    let found = first_found (λ b. b) (slot + 1) (drop (slot + 1) bits) other (sym f) in
    let later = found.later in
    let at : slot + 1 + (other - (slot + 1)) ≡ other = omega (arith, later) in
    ((λ same. absurd (omega (arith, later, same))), ap (λ n. get_or bits n false) (sym at) ∙ sym (get_or-drop (slot + 1) bits (other - (slot + 1)) false) ∙ found.first.passes)

-- How far a binary search has come.
use Rattle.std.proofs.Common.{◌≡◌, ℕ, ◌+◌, ◌<◌, ◌≤◌, Bool, true, false, List, length, get_or, sym, ap, ◌∙◌, refl, arith}
use Rattle.std.proofs.lemmas.Bool.{false≢true}
use Rattle.std.proofs.lemmas.List.{get_or_default}
use Rattle.slot_alloc.specs.inner.Searches.{IsSplit}

-- the place lies between two others
pub record IsBetween {A : Type 0} (test : ℕ → A → Bool) (xs : List A) (low high : ℕ) : Type 0 where
  pub order : low ≤ high
  pub within : high ≤ length xs
  pub front : (i : ℕ) (d : A) → i < low → test i (get_or xs i d) ≡ true
  pub back : (i : ℕ) (d : A) → high ≤ i → i < length xs → test i (get_or xs i d) ≡ false

module _ {A : Type 0} (test : ℕ → A → Bool) (xs : List A) (low high at : ℕ) (x : A) (split : IsSplit test xs) (b : IsBetween test xs low high) (le : low ≤ at) (lt : at < high) (is : x ≡ get_or xs at x) where
  at_default : (d : A) → test at (get_or xs at d) ≡ test at x
  at_default d = ap (test at) (get_or_default xs at d x (let w = b.within in omega (arith, lt, w)) ∙ sym is)

  pub between_later : (r : Bool) → r ≡ test at x → r ≡ true → IsBetween test xs (at + 1) high
  between_later r answer passes = record {
    order = omega (arith, lt);
    within = b.within;
    front = λ i d l. split i at d (omega (arith, l)) (let w = b.within in omega (arith, lt, w)) (at_default d ∙ sym answer ∙ passes);
    back = b.back;
  }

  pub between_earlier : (r : Bool) → r ≡ test at x → r ≡ false → IsBetween test xs low at
  between_earlier r answer fails = record {
    order = le;
    within = let w = b.within in omega (arith, lt, w);
    front = b.front;
    back = λ i d l within. by i d l within (test i (get_or xs i d)) refl;
  }
    where
      by : (i : ℕ) (d : A) → at ≤ i → i < length xs → (r : Bool) → test i (get_or xs i d) ≡ r → test i (get_or xs i d) ≡ false
      by i d l within true e = absurd (false≢true (sym fails ∙ answer ∙ sym (at_default d) ∙ split at i d l within e))
      by i d l within false e = e

-- Lists whose first items pass a test of places and items, and whose later ones do not.
use Rattle.std.specs.Prelude.{◌≡◌, ℕ, ◌<◌, ◌≤◌, Bool, true, false, List, length, slice_index_or}

-- no item that passes stands behind one that does not
abbrev pub IsSplit : {A : Type 0} → (ℕ → A → Bool) → List A → Type 0
IsSplit {A} test xs = (i j : ℕ) (d : A) → i ≤ j → j < length xs → test j (slice_index_or xs j d) ≡ true → test i (slice_index_or xs i d) ≡ true

-- the items before the place pass, and those from it on do not
pub record IsSplitPlace {A : Type 0} (test : ℕ → A → Bool) (xs : List A) (at : ℕ) : Type 0 where
  pub within : at ≤ length xs
  pub front : (i : ℕ) (d : A) → i < at → test i (slice_index_or xs i d) ≡ true
  pub back : (i : ℕ) (d : A) → at ≤ i → i < length xs → test i (slice_index_or xs i d) ≡ false

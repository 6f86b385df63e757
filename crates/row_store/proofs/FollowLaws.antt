-- Where a store follows an older one: after one row more, less or changed, its rowid and its place are touched.
use Rattle.std.proofs.Common.{◌≡◌, ℕ, ℤ, Bool, true, false, cond, List, [], ◌∷◌, Some, refl, sym, ap, ◌∙◌}
use Rattle.std.specs.List.{AllByRecursion, find}
use Rattle.std.specs.Ordering.{int_eq}
use Rattle.row_store.specs.StoredRows.{StoredRow, rowid_of, row_of, row_at, lies_at, with_changed, with_row, without}
use Rattle.row_store.specs.Touches.{Touches, StoreState, KeepsOrigin, is_touched_row, is_touched_place}
use Rattle.row_store.specs.inner.Widening.{IsWider}
use Rattle.row_store.proofs.KeyedLaws.{found-with_other, found-without_other}
use Rattle.row_store.proofs.TieLaws.{eq_from, both_equal}

-- what is not touched now was not touched before
row_untouched : (old new : Touches) (i : ℤ) → IsWider old new → is_touched_row new i ≡ false → is_touched_row old i ≡ false
row_untouched old new i wider out = by_test (is_touched_row old i) refl where
  by_test : (t : Bool) → is_touched_row old i ≡ t → is_touched_row old i ≡ false
  by_test false e = e
  by_test true e = let never : true ≡ false = sym (wider.rows i e) ∙ out in absurd cc

place_untouched : (old new : Touches) (c s : ℕ) → IsWider old new → is_touched_place new c s ≡ false → is_touched_place old c s ≡ false
place_untouched old new c s wider out = by_test (is_touched_place old c s) refl where
  by_test : (t : Bool) → is_touched_place old c s ≡ t → is_touched_place old c s ≡ false
  by_test false e = e
  by_test true e = let never : true ≡ false = sym (wider.places.used c s e) ∙ out in absurd cc

module _ (old new : StoreState) (row : StoredRow) (wider : IsWider old.touches new.touches)
    (touched : is_touched_row new.touches row.rowid ≡ true) (spot : is_touched_place new.touches row.chunk row.slot ≡ true) where
  other_rowid : (i : ℤ) → is_touched_row new.touches i ≡ false → int_eq row.rowid i ≡ false
  other_rowid i out = by_test (int_eq row.rowid i) refl where
    by_test : (t : Bool) → int_eq row.rowid i ≡ t → int_eq row.rowid i ≡ false
    by_test false e = e
    by_test true e = let never : true ≡ false = sym touched ∙ ap (is_touched_row new.touches) (eq_from row.rowid i e) ∙ out in absurd cc

  other_place : (c s : ℕ) → is_touched_place new.touches c s ≡ false → lies_at c s row ≡ false
  other_place c s out = by_test (lies_at c s row) refl where
    by_test : (t : Bool) → lies_at c s row ≡ t → lies_at c s row ≡ false
    by_test false e = e
    by_test true e =
        let p = both_equal c row.chunk s row.slot e in
        let there : is_touched_place new.touches c s ≡ true = ap (λ d. is_touched_place new.touches d s) p.0 ∙ ap (is_touched_place new.touches row.chunk) p.1 ∙ spot in
        let never : true ≡ false = sym there ∙ out in
        absurd cc

  pub follows-put : new.rows ≡ with_row row old.rows → KeepsOrigin old new
  follows-put is = λ base follows. record {
    by_rowid = λ i out. follows.by_rowid i (row_untouched old.touches new.touches i wider out)
        ∙ sym (ap (row_of i) is ∙ found-with_other rowid_of (λ r. int_eq (rowid_of r) i) row old.rows (other_rowid i out));
    by_place = λ c s out. follows.by_place c s (place_untouched old.touches new.touches c s wider out)
        ∙ sym (ap (λ rs. row_at rs c s) is ∙ found-with_other rowid_of (lies_at c s) row old.rows (other_place c s out));
  }

-- where nothing changes but what is touched
pub follows-same : (old new : StoreState) → IsWider old.touches new.touches → new.rows ≡ old.rows → KeepsOrigin old new
follows-same old new wider is = λ base follows. record {
  by_rowid = λ i out. follows.by_rowid i (row_untouched old.touches new.touches i wider out) ∙ sym (ap (row_of i) is);
  by_place = λ c s out. follows.by_place c s (place_untouched old.touches new.touches c s wider out) ∙ sym (ap (λ rs. row_at rs c s) is);
}

-- what has a touched rowid has no other that is not touched
apart_rowid : (touches : Touches) (rowid i j : ℤ) → is_touched_row touches rowid ≡ true → is_touched_row touches i ≡ false → int_eq j rowid ≡ true → int_eq j i ≡ false
apart_rowid touches rowid i j touched out here = by_test (int_eq j i) refl where
  by_test : (t : Bool) → int_eq j i ≡ t → int_eq j i ≡ false
  by_test false e = e
  by_test true e =
      let there : is_touched_row touches i ≡ true = ap (is_touched_row touches) (sym (eq_from j i e) ∙ eq_from j rowid here) ∙ touched in
      let never : true ≡ false = sym there ∙ out in
      absurd cc

-- the rows of a rowid go, which all lie at a touched place
pub follows-removed : (old new : StoreState) (rowid : ℤ) (chunk slot : ℕ) → IsWider old.touches new.touches → is_touched_row new.touches rowid ≡ true → is_touched_place new.touches chunk slot ≡ true →
    ((c s : ℕ) → is_touched_place new.touches c s ≡ false → row_at (without rowid old.rows) c s ≡ row_at old.rows c s) → new.rows ≡ without rowid old.rows → KeepsOrigin old new
follows-removed old new rowid chunk slot wider touched spot elsewhere is = λ base follows. record {
  by_rowid = λ i out. follows.by_rowid i (row_untouched old.touches new.touches i wider out)
      ∙ sym (ap (row_of i) is ∙ found-without_other rowid_of (λ r. int_eq (rowid_of r) i) rowid old.rows (λ r here. apart_rowid new.touches rowid i (rowid_of r) touched out here));
  by_place = λ c s out. follows.by_place c s (place_untouched old.touches new.touches c s wider out)
      ∙ sym (ap (λ rs. row_at rs c s) is ∙ elsewhere c s out);
}

-- ---- a row changes in its place

-- where a test holds of no element of a key, before or after its change, the change is not found
found-changed : (test : StoredRow → Bool) (i : ℤ) (change : StoredRow → StoredRow) (rows : List StoredRow) → ((r : StoredRow) → test (change r) ≡ test r) →
    AllByRecursion (λ r. int_eq (rowid_of r) i ≡ true → test r ≡ false) rows → find test (with_changed i change rows) ≡ find test rows
found-changed test i change [] same out = refl
found-changed test i change (r ∷ rs) same out = by_key (int_eq r.rowid i) refl (found-changed test i change rs same out.1) where
  by_key : (t : Bool) → int_eq r.rowid i ≡ t → find test (with_changed i change rs) ≡ find test rs → find test (with_changed i change (r ∷ rs)) ≡ find test (r ∷ rs)
  by_key true e rest = let was = out.0 e in let now = same r ∙ was in rw (e, now, was) rest
  by_key false e rest = rw e (ap (cond (test r) (Some r)) rest)

all-such : (P : StoredRow → Type 0) (rows : List StoredRow) → ((r : StoredRow) → P r) → AllByRecursion P rows
all-such P [] each = tt
all-such P (r ∷ rs) each = (each r, all-such P rs each)

-- the row of a rowid, which lies at a touched place, is changed and stays there
pub follows-changed : (old new : StoreState) (rowid : ℤ) (change : StoredRow → StoredRow) → IsWider old.touches new.touches → is_touched_row new.touches rowid ≡ true →
    ((r : StoredRow) → rowid_of (change r) ≡ rowid_of r) → ((c s : ℕ) (r : StoredRow) → lies_at c s (change r) ≡ lies_at c s r) →
    ((c s : ℕ) → is_touched_place new.touches c s ≡ false → AllByRecursion (λ r. int_eq (rowid_of r) rowid ≡ true → lies_at c s r ≡ false) old.rows) →
    new.rows ≡ with_changed rowid change old.rows → KeepsOrigin old new
follows-changed old new rowid change wider touched same_rowid same_place elsewhere is = λ base follows. record {
  by_rowid = λ i out. follows.by_rowid i (row_untouched old.touches new.touches i wider out)
      ∙ sym (ap (row_of i) is ∙ found-changed (λ r. int_eq (rowid_of r) i) rowid change old.rows (λ r. ap (λ k. int_eq k i) (same_rowid r))
      (all-such (λ r. int_eq (rowid_of r) rowid ≡ true → int_eq (rowid_of r) i ≡ false) old.rows (λ r here. apart_rowid new.touches rowid i (rowid_of r) touched out here)));
  by_place = λ c s out. follows.by_place c s (place_untouched old.touches new.touches c s wider out)
      ∙ sym (ap (λ rs. row_at rs c s) is ∙ found-changed (lies_at c s) rowid change old.rows (same_place c s) (elsewhere c s out));
}

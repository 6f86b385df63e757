-- Entries by rising rowids: what is found by a rowid, and what one entry more or less makes of them.
use Rattle.std.proofs.Common.{◌≡◌, ℕ, zero, suc, ℤ, int_lt, ◌+◌, ◌<◌, ◌≤◌, Bool, true, false, not, cond, if◌then◌else◌, Result, Ok, Err, is_ok, List, [], ◌∷◌, length, get_or, Less, Equal, Greater, refl, ap, ◌∙◌, arith, Some, None, ⊎_elim}
use Rattle.std.specs.List.{AllByRecursion, insert, remove, list_all}
use Rattle.std.specs.List.Sorted.{IsPartitionPoint, IsStrictlySortedBy}
use Rattle.std.specs.Option.{option_map}
use Rattle.std.specs.Ordering.{int_cmp, int_eq, is_eq}
use Rattle.std.specs.declared.option.Option.{Option}
use Rattle.std.proofs.lemmas.Bool.{and_from, cases_lt, cond-true, cond-false}
use Rattle.std.proofs.lemmas.Cmp.{int_cmp_total}
use Rattle.std.proofs.lemmas.Int.{ints}
use Rattle.std.proofs.lemmas.List.Folds.{list_any_at, list_any_none}
use Rattle.row_index.specs.declared.entry.Entry.{Entry}
use Rattle.row_index.specs.Entries.{has_rowid, is_behind, is_rising, next_after, with_entry, without}
use Rattle.row_index.specs.inner.Keys.{IsGap}
use Rattle.row_index.specs.inner.Pairs.{RowidsRise}
use Rattle.row_index.proofs.FindLaws.{filter_all, filter-remove, find_first, find_none}
use Rattle.row_index.proofs.KeyLaws.{less_before, greater_behind, rises-insert}

-- ---- integers

int_lt_not_back : (a b : ℤ) → int_lt a b ≡ true → int_lt b a ≡ false
int_lt_not_back a b h = grind (arith, ints)

lt_from_less : (a b : ℤ) → int_cmp a b ≡ Less → int_lt a b ≡ true
lt_from_less a b h = by_test (int_lt a b) (int_lt b a) refl h
  where
    by_test : (x y : Bool) → int_lt a b ≡ x → cond x Less (cond y Greater Equal) ≡ Less → int_lt a b ≡ true
    by_test true y e g = e
    by_test false true e g = absurd cc
    by_test false false e g = absurd cc

lt_from_greater : (a b : ℤ) → int_cmp a b ≡ Greater → int_lt b a ≡ true
lt_from_greater a b h = by_test (int_lt a b) (int_lt b a) refl h
  where
    by_test : (x y : Bool) → int_lt b a ≡ y → cond x Less (cond y Greater Equal) ≡ Greater → int_lt b a ≡ true
    by_test true y e g = absurd cc
    by_test false true e g = e
    by_test false false e g = absurd cc

not_lt_from_less : (a b : ℤ) → int_cmp a b ≡ Less → int_lt b a ≡ false
not_lt_from_less a b h = int_lt_not_back a b (lt_from_less a b h)

not_lt_from_equal : (a b : ℤ) → int_cmp a b ≡ Equal → int_lt b a ≡ false
not_lt_from_equal a b h = by_test (int_lt a b) (int_lt b a) refl h
  where
    by_test : (x y : Bool) → int_lt b a ≡ y → cond x Less (cond y Greater Equal) ≡ Equal → int_lt b a ≡ false
    by_test true y e g = absurd cc
    by_test false true e g = absurd cc
    by_test false false e g = e

-- ---- what is found

pub has_rowid_at : (rowid : ℤ) (entries : List Entry) (at : ℕ) (d : Entry) → at < length entries → int_cmp (get_or entries at d).rowid rowid ≡ Equal → has_rowid rowid entries ≡ true
has_rowid_at rowid entries at d lt equal = list_any_at (λ (e : Entry). int_eq e.rowid rowid) entries at d lt (ap is_eq equal)

pub has_rowid_nowhere : (rowid : ℤ) (entries : List Entry) (at : ℕ) → IsGap (λ entry. int_cmp entry.rowid rowid) entries at → has_rowid rowid entries ≡ false
has_rowid_nowhere rowid entries at gap =
    list_any_none (λ (e : Entry). int_eq e.rowid rowid) entries
    (λ i d within.
    ⊎_elim
    (λ (lt : i < at). ap is_eq (gap.0 i d (omega arith) lt))
    (λ (ge : at ≤ i). ap is_eq (gap.1 i d ge within))
    (cases_lt i at))

-- rowids up to one, and those above it
abbrev pub IsPlaceAfter : Option ℤ → List Entry → ℕ → Type 0
IsPlaceAfter after entries at = IsPartitionPoint (λ (e : Entry). is_behind after e.rowid ≡ false) (λ (e : Entry). is_behind after e.rowid ≡ true) entries at

pub after_gap : (rowid : ℤ) (entries : List Entry) (at : ℕ) → IsGap (λ entry. int_cmp entry.rowid rowid) entries at → IsPlaceAfter (Some rowid) entries at
after_gap rowid entries at gap = (
  (λ k d low high. not_lt_from_less (get_or entries k d).rowid rowid (gap.0 k d low high)),
  (λ k d low high. lt_from_greater (get_or entries k d).rowid rowid (gap.1 k d low high)),
)

pub after_entry : (rowid : ℤ) (entries : List Entry) (at : ℕ) → RowidsRise entries → at < length entries → ((d : Entry) → int_cmp (get_or entries at d).rowid rowid ≡ Equal) → IsPlaceAfter (Some rowid) entries (at + 1)
after_entry rowid entries at rise within equal = (
  (λ k d low high.
      ⊎_elim
      (λ (lt : k < at). not_lt_from_less (get_or entries k d).rowid rowid (less_before int_cmp int_cmp_total (λ (e : Entry). e.rowid) rowid entries at k d rise within (equal d) lt))
      (λ (ge : at ≤ k).
      let is : k ≡ at = omega arith in
      ap (λ n. int_lt rowid (get_or entries n d).rowid) is ∙ not_lt_from_equal (get_or entries at d).rowid rowid (equal d))
      (cases_lt k at)),
  (λ k d low high. lt_from_greater (get_or entries k d).rowid rowid (greater_behind int_cmp int_cmp_total (λ (e : Entry). e.rowid) rowid entries at k d rise (equal d) (omega arith) high)),
)

pub next_at : (after : Option ℤ) (entries : List Entry) (at : ℕ) (d : Entry) → IsPlaceAfter after entries at → at < length entries → next_after after entries ≡ Some (get_or entries at d).rowid
next_at after entries at d place lt =
    ap (λ r. option_map (λ (e : Entry). e.rowid) r)
    (find_first (λ (e : Entry). is_behind after e.rowid) entries at d lt (λ k below. place.0 k d (omega arith) below) (place.1 at d (omega arith) lt))

pub next_nowhere : (after : Option ℤ) (entries : List Entry) (at : ℕ) → IsPlaceAfter after entries at → length entries ≤ at → next_after after entries ≡ None
next_nowhere after entries at place le =
    ap (λ r. option_map (λ (e : Entry). e.rowid) r)
    (find_none (λ (e : Entry). is_behind after e.rowid) entries (λ k d lt. place.0 k d (omega arith) (omega arith)))

-- ---- changes

pub with_entry-insert : (entry : Entry) (entries : List Entry) (at : ℕ) → at ≤ length entries → IsGap (λ x. int_cmp x.rowid entry.rowid) entries at → with_entry entry entries ≡ insert entries at entry
with_entry-insert entry [] zero le gap = refl
with_entry-insert entry [] (suc at) le gap = absurd (omega arith)
with_entry-insert entry (x ∷ xs) zero le gap = cond-true (int_lt entry.rowid x.rowid) _ _ (lt_from_greater x.rowid entry.rowid (gap.1 0 x (omega arith) (omega arith)))
with_entry-insert entry (x ∷ xs) (suc at) le gap =
    let rest : IsGap (λ (z : Entry). int_cmp z.rowid entry.rowid) xs at =
    ((λ k d low high. gap.0 (suc k) d (omega arith) (omega arith)), (λ k d low high. gap.1 (suc k) d (omega arith) (omega arith)))
    in
    cond-false (int_lt entry.rowid x.rowid) _ _ (not_lt_from_less x.rowid entry.rowid (gap.0 0 x (omega arith) (omega arith)))
    ∙ ap (λ ys. x ∷ ys) (with_entry-insert entry xs at (omega arith) rest)

pub rise_inserted : {R E : Type 0} (result : Result R E) (entries new : List Entry) (at : ℕ) (entry : Entry) → at ≤ length entries → IsGap (λ x. int_cmp x.rowid entry.rowid) entries at → RowidsRise entries → new ≡ (if is_ok result then insert entries at entry else entries) → RowidsRise new
rise_inserted (Ok u) entries new at entry le gap rise is = rw is (rises-insert int_cmp int_cmp_total (λ (e : Entry). e.rowid) entries at entry le gap rise)
rise_inserted (Err e) entries new at entry le gap rise is = rw is rise

pub without-remove : (rowid : ℤ) (entries : List Entry) (at : ℕ) (d : Entry) → RowidsRise entries → at < length entries → ((e : Entry) → int_cmp (get_or entries at e).rowid rowid ≡ Equal) → without rowid entries ≡ remove entries at
without-remove rowid entries at d rise lt equal =
    filter-remove (λ (e : Entry). not (int_eq e.rowid rowid)) entries at d lt
    (ap (λ o. not (is_eq o)) (equal d))
    (λ k e within differs.
    ⊎_elim
    (λ (below : k < at). ap (λ o. not (is_eq o)) (less_before int_cmp int_cmp_total (λ (x : Entry). x.rowid) rowid entries at k e rise lt (equal e) below))
    (λ (above : at ≤ k). ap (λ o. not (is_eq o)) (greater_behind int_cmp int_cmp_total (λ (x : Entry). x.rowid) rowid entries at k e rise (equal e) (omega (arith, differs)) within))
    (cases_lt k at))

pub without_nowhere : (rowid : ℤ) (entries : List Entry) (at : ℕ) → IsGap (λ entry. int_cmp entry.rowid rowid) entries at → without rowid entries ≡ entries
without_nowhere rowid entries at gap =
    filter_all (λ (e : Entry). not (int_eq e.rowid rowid)) entries
    (λ i d within.
    ⊎_elim
    (λ (lt : i < at). ap (λ o. not (is_eq o)) (gap.0 i d (omega arith) lt))
    (λ (ge : at ≤ i). ap (λ o. not (is_eq o)) (gap.1 i d ge within))
    (cases_lt i at))

-- ---- rowids rise

all_above : (x : Entry) (xs : List Entry) → AllByRecursion (λ y. int_cmp x.rowid y.rowid ≡ Less) xs → list_all (λ entry. int_lt x.rowid entry.rowid) xs ≡ true
all_above x [] above = refl
all_above x (y ∷ ys) above = and_from _ _ (lt_from_less x.rowid y.rowid above.0) (all_above x ys above.1)

pub rising_entries : (entries : List Entry) → RowidsRise entries → is_rising entries ≡ true
unfolding IsStrictlySortedBy
rising_entries [] rise = refl
rising_entries (x ∷ xs) rise = and_from _ _ (all_above x xs rise.0) (rising_entries xs rise.1)

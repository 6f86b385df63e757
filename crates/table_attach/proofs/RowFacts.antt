-- Rows by rising rowids: what is found, what a new row leaves to be found, and two rows of one table.
use Rattle.std.proofs.Common.{◌≡◌, ◌+◌, ◌≤◌, ℤ, int_lt, Bool, true, false, cond, if◌then◌else◌, List, [], ◌∷◌, length, refl, sym, ap, ◌∙◌, subst, arith, ◌⊎◌, inl, inr, Some, None}
use Rattle.std.specs.Prelude.{◌||◌, find, not}
use Rattle.std.specs.List.{list_all, list_any, AllPairs}
use Rattle.std.specs.Ordering.{int_eq}
use Rattle.std.proofs.lemmas.Bool.{and_parts, cond-true, cond-false}
use Rattle.std.proofs.lemmas.Int.{ints}
use Rattle.record_bodies.proofs.FindLaws.{all_rows, found_all, found_stands, pairs_first, pairs_rest, rowid_is}
use Rattle.row_model.specs.Change.{same_id}
use Rattle.row_model.specs.Rows.{has_rowid, is_rising}
use Rattle.row_model.specs.Valid.{have_own_ids}
use Rattle.row_model.specs.declared.row.Row.{Row}
use Rattle.row_model.specs.declared.schema.Column.{Column}
use Rattle.row_model.proofs.RowLaws.{is_rising-with_row}
use Rattle.shadow_records.specs.PlacedTables.{PlacedRow, plain_rows, row_of}
use Rattle.table_version.specs.PlacedRows.{with_placed}
use Rattle.table_version.proofs.PlacedLaws.{plain-with}

abbrev pub Rising : List PlacedRow → Type 0
Rising rows = is_rising (plain_rows rows) ≡ true

eq_itself : (i : ℤ) → int_eq i i ≡ true
eq_itself i = grind (arith, ints)

eq_from : (i j : ℤ) → int_eq i j ≡ true → i ≡ j
eq_from i j h = grind (arith, ints)

lt_apart : (i j : ℤ) → int_lt i j ≡ true → int_eq i j ≡ false
lt_apart i j h = grind (arith, ints)

-- ---- what is found

pub found-plain : (P : Row → Bool) (test : PlacedRow → Bool) (xs : List PlacedRow) (x : PlacedRow) → list_all P (plain_rows xs) ≡ true → find test xs ≡ Some x → P x.row ≡ true
found-plain P test xs x all is = found_all test (λ (p : PlacedRow). P p.row) xs x (sym (all_rows (λ (p : PlacedRow). p.row) P xs) ∙ all) is

-- ---- rising rows

tail_rising : (x : PlacedRow) (xs : List PlacedRow) → Rising (x ∷ xs) → Rising xs
tail_rising x xs rising = (and_parts (list_all (λ row. int_lt x.row.rowid row.rowid) (plain_rows xs)) (is_rising (plain_rows xs)) rising).1

pub behind-first : (x : PlacedRow) (xs : List PlacedRow) (test : PlacedRow → Bool) (q : PlacedRow) → Rising (x ∷ xs) → find test xs ≡ Some q → int_lt x.row.rowid q.row.rowid ≡ true
behind-first x xs test q rising is = found-plain (λ row. int_lt x.row.rowid row.rowid) test xs q (and_parts (list_all (λ row. int_lt x.row.rowid row.rowid) (plain_rows xs)) (is_rising (plain_rows xs)) rising).0 is

-- what is found is found under its rowid
pub found-own : (test : PlacedRow → Bool) (rows : List PlacedRow) (q : PlacedRow) → Rising rows → find test rows ≡ Some q → row_of rows q.row.rowid ≡ Some q
found-own test [] q rising is = absurd cc
found-own test (x ∷ xs) q rising is = by_test (found-own test xs q (tail_rising x xs rising)) (test x) is where
  by_test : (find test xs ≡ Some q → row_of xs q.row.rowid ≡ Some q) → (t : Bool) → cond t (Some x) (find test xs) ≡ Some q → row_of (x ∷ xs) q.row.rowid ≡ Some q
  by_test more true same = let is : x ≡ q = cc in cond-true _ _ _ (ap (λ y. int_eq y.row.rowid q.row.rowid) is ∙ eq_itself q.row.rowid) ∙ ap Some is
  by_test more false later = cond-false _ _ _ (lt_apart x.row.rowid q.row.rowid (behind-first x xs test q rising later)) ∙ more later

-- ---- one row more

pub find-beside : (test : PlacedRow → Bool) (new : PlacedRow) (rows : List PlacedRow) → test new ≡ false → find test (with_placed new rows) ≡ find test rows
find-beside test new [] other = cond-false _ _ _ other
find-beside test new (x ∷ xs) other = by_order (int_lt new.row.rowid x.row.rowid) (find-beside test new xs other) where
  by_order : (t : Bool) → find test (with_placed new xs) ≡ find test xs → find test (if t then new ∷ x ∷ xs else x ∷ with_placed new xs) ≡ find test (x ∷ xs)
  by_order true rest = cond-false _ _ _ other
  by_order false rest = ap (cond (test x) (Some x)) rest

pub find-new : (test : PlacedRow → Bool) (new : PlacedRow) (rows : List PlacedRow) → test new ≡ true → find test rows ≡ None → find test (with_placed new rows) ≡ Some new
find-new test new [] is none = cond-true _ _ _ is
find-new test new (x ∷ xs) is none = by_order (int_lt new.row.rowid x.row.rowid) (test x) refl none (λ none. find-new test new xs is none) where
  by_order : (t b : Bool) → test x ≡ b → cond b (Some x) (find test xs) ≡ None → (find test xs ≡ None → find test (with_placed new xs) ≡ Some new) → find test (if t then new ∷ x ∷ xs else x ∷ with_placed new xs) ≡ Some new
  by_order t true e never rest = absurd cc
  by_order true false e none rest = cond-true _ _ _ is
  by_order false false e none rest = cond-false _ _ _ e ∙ rest none

-- a row with a rowid of its own comes
module _ (new : PlacedRow) (rows : List PlacedRow) (fresh : row_of rows new.row.rowid ≡ None) where
  pub of-new : row_of (with_placed new rows) new.row.rowid ≡ Some new
  of-new = find-new (λ q. int_eq q.row.rowid new.row.rowid) new rows (eq_itself new.row.rowid) fresh

  pub of-grown : (i : ℤ) (p : PlacedRow) → row_of rows i ≡ Some p → row_of (with_placed new rows) i ≡ Some p
  of-grown i p is = by_test (int_eq new.row.rowid i) refl where
    by_test : (t : Bool) → int_eq new.row.rowid i ≡ t → row_of (with_placed new rows) i ≡ Some p
    by_test false e = find-beside (λ q. int_eq q.row.rowid i) new rows e ∙ is
    by_test true e = let never : None ≡ Some p = sym fresh ∙ ap (row_of rows) (eq_from new.row.rowid i e) ∙ is in absurd cc

  -- a row of the more rows is the new one or an old one
  pub of-more : (i : ℤ) (p : PlacedRow) → row_of (with_placed new rows) i ≡ Some p → ((i ≡ new.row.rowid) × (p ≡ new)) ⊎ (row_of rows i ≡ Some p)
  of-more i p is = by_test (int_eq new.row.rowid i) refl where
    by_test : (t : Bool) → int_eq new.row.rowid i ≡ t → ((i ≡ new.row.rowid) × (p ≡ new)) ⊎ (row_of rows i ≡ Some p)
    by_test false e = inr (sym (find-beside (λ q. int_eq q.row.rowid i) new rows e) ∙ is)
    by_test true e =
        let own = eq_from new.row.rowid i e in
        let same : Some new ≡ Some p = sym of-new ∙ ap (row_of (with_placed new rows)) own ∙ is in
        let one : new ≡ p = cc in
        inl (sym own, sym one)

  pub rising-more : Rising rows → Rising (with_placed new rows)
  rising-more rising = ap is_rising (plain-with new rows) ∙ is_rising-with_row new.row (plain_rows rows) rising (no_rowid rows fresh) where
    no_rowid : (ps : List PlacedRow) → row_of ps new.row.rowid ≡ None → has_rowid new.row.rowid (plain_rows ps) ≡ false
    no_rowid [] none = refl
    no_rowid (p ∷ ps) none = by_test (int_eq p.row.rowid new.row.rowid) none (λ none. no_rowid ps none) where
      by_test : (t : Bool) → cond t (Some p) (row_of ps new.row.rowid) ≡ None → (row_of ps new.row.rowid ≡ None → has_rowid new.row.rowid (plain_rows ps) ≡ false) → (t || has_rowid new.row.rowid (plain_rows ps)) ≡ false
      by_test true never rest = absurd cc
      by_test false none rest = rest none

pub length-more : (new : PlacedRow) (rows : List PlacedRow) → length (with_placed new rows) ≡ length rows + 1
length-more new [] = refl
length-more new (x ∷ xs) = by_order (int_lt new.row.rowid x.row.rowid) (length-more new xs) where
  by_order : (t : Bool) → length (with_placed new xs) ≡ length xs + 1 → length (if t then new ∷ x ∷ xs else x ∷ with_placed new xs) ≡ length (x ∷ xs) + 1
  by_order true rest = omega arith
  by_order false rest = omega (arith, rest)

-- ---- rows among others

abbrev pub AreAmong : List PlacedRow → List PlacedRow → Type 0
AreAmong rows all = (i : ℤ) (p : PlacedRow) → row_of rows i ≡ Some p → row_of all i ≡ Some p

-- without the first row, which is the first of all or is not among them
among_behind : (x : PlacedRow) (xs : List PlacedRow) (y : PlacedRow) (ys : List PlacedRow) → Rising (x ∷ xs) → Rising (y ∷ ys) → AreAmong (x ∷ xs) (y ∷ ys) → x.row.rowid ≡ y.row.rowid → AreAmong xs ys
among_behind x xs y ys rx ry among same i p is =
    let behind = behind-first x xs (λ q. int_eq q.row.rowid i) p rx is in
    let own = rowid_is xs i p is in
    let apart : int_eq x.row.rowid i ≡ false = ap (int_eq x.row.rowid) (sym own) ∙ lt_apart x.row.rowid p.row.rowid behind in
    let there = among i p (cond-false _ _ _ apart ∙ is) in
    sym (cond-false _ _ _ (ap (λ j. int_eq j i) (sym same) ∙ apart)) ∙ there

among_others : (x : PlacedRow) (xs : List PlacedRow) (y : PlacedRow) (ys : List PlacedRow) → Rising (x ∷ xs) → AreAmong (x ∷ xs) (y ∷ ys) → int_lt y.row.rowid x.row.rowid ≡ true → AreAmong (x ∷ xs) ys
among_others x xs y ys rx among less i p is = sym (cond-false _ _ _ apart) ∙ among i p is where
  below : (a b c : ℤ) → int_lt a b ≡ true → int_lt b c ≡ true → int_eq a c ≡ false
  below a b c h k = grind (arith, ints)

  apart : int_eq y.row.rowid i ≡ false
  apart = by_test (int_eq x.row.rowid i) refl is where
    by_test : (t : Bool) → int_eq x.row.rowid i ≡ t → cond t (Some x) (row_of xs i) ≡ Some p → int_eq y.row.rowid i ≡ false
    by_test true e same = ap (int_eq y.row.rowid) (sym (eq_from x.row.rowid i e)) ∙ lt_apart y.row.rowid x.row.rowid less
    by_test false e later =
        let behind = behind-first x xs (λ q. int_eq q.row.rowid i) p rx later in
        ap (int_eq y.row.rowid) (sym (rowid_is xs i p later)) ∙ below y.row.rowid x.row.rowid p.row.rowid less behind

pub no_more : (all rows : List PlacedRow) → Rising rows → Rising all → AreAmong rows all → length rows ≤ length all
no_more all [] rx ry among = omega arith
no_more [] (x ∷ xs) rx ry among = let never : None ≡ Some x = among x.row.rowid x (cond-true _ _ _ (eq_itself x.row.rowid)) in absurd cc
no_more (y ∷ ys) (x ∷ xs) rx ry among =
    by_test (no_more ys xs (tail_rising x xs rx) (tail_rising y ys ry)) (no_more ys (x ∷ xs) rx (tail_rising y ys ry)) (int_eq y.row.rowid x.row.rowid) refl (among x.row.rowid x (cond-true _ _ _ (eq_itself x.row.rowid)))
  where
    by_test : (AreAmong xs ys → length xs ≤ length ys) → (AreAmong (x ∷ xs) ys → length (x ∷ xs) ≤ length ys) → (t : Bool) → int_eq y.row.rowid x.row.rowid ≡ t → cond t (Some y) (row_of ys x.row.rowid) ≡ Some x →
        length (x ∷ xs) ≤ length (y ∷ ys)
    by_test both one true e same =
        let rest = both (among_behind x xs y ys rx ry among (sym (eq_from y.row.rowid x.row.rowid e))) in
        omega (arith, rest)
    by_test both one false e later =
        let less = behind-first y ys (λ q. int_eq q.row.rowid x.row.rowid) x ry later in
        let rest = one (among_others x xs y ys rx among less) in
        omega (arith, rest)

-- ---- two rows of one table

-- two rows that are found are one, or stand one behind the other
pub pair-found : {A : Type 0} (R : A → A → Type 0) (t u : A → Bool) (xs : List A) (p q : A) → AllPairs R xs → find t xs ≡ Some p → find u xs ≡ Some q → (p ≡ q) ⊎ (R p q ⊎ R q p)
pair-found R t u [] p q pairs a b = absurd cc
pair-found R t u (x ∷ xs) p q pairs a b = by_tests (pair-found R t u xs p q (pairs_rest R x xs pairs)) (t x) (u x) a b where
  by_tests : (find t xs ≡ Some p → find u xs ≡ Some q → (p ≡ q) ⊎ (R p q ⊎ R q p)) → (s r : Bool) → cond s (Some x) (find t xs) ≡ Some p → cond r (Some x) (find u xs) ≡ Some q → (p ≡ q) ⊎ (R p q ⊎ R q p)
  by_tests more true true a b = let one : x ≡ p = cc in let two : x ≡ q = cc in inl (sym one ∙ two)
  by_tests more true false a b = let one : x ≡ p = cc in inr (inl (subst (λ y. R y q) one (pairs_first R x xs q pairs (found_stands u xs q b))))
  by_tests more false true a b = let two : x ≡ q = cc in inr (inr (subst (λ y. R y p) two (pairs_first R x xs p pairs (found_stands t xs p a))))
  by_tests more false false a b = more a b

none_such : (P : Row → Bool) (test : PlacedRow → Bool) (ps : List PlacedRow) (q : PlacedRow) → list_any P (plain_rows ps) ≡ false → find test ps ≡ Some q → P q.row ≡ false
none_such P test [] q none is = absurd cc
none_such P test (p ∷ ps) q none is = by_test (none_such P test ps q) (P p.row) refl none (test p) is where
  by_test : (list_any P (plain_rows ps) ≡ false → find test ps ≡ Some q → P q.row ≡ false) → (b : Bool) → P p.row ≡ b → (b || list_any P (plain_rows ps)) ≡ false → (t : Bool) → cond t (Some p) (find test ps) ≡ Some q → P q.row ≡ false
  by_test more true e never t is = absurd cc
  by_test more false e none true same = let is : p ≡ q = cc in ap (λ z. P z.row) (sym is) ∙ e
  by_test more false e none false later = more none later

-- no two rows have one text id
pub ids-apart : (columns : List Column) (rows : List PlacedRow) (t u : PlacedRow → Bool) (p q : PlacedRow) → have_own_ids columns (plain_rows rows) ≡ true → find t rows ≡ Some p → find u rows ≡ Some q →
    (p ≡ q) ⊎ ((same_id columns p.row.values q.row.values ≡ false) ⊎ (same_id columns q.row.values p.row.values ≡ false))
ids-apart columns [] t u p q own a b = absurd cc
ids-apart columns (x ∷ xs) t u p q own a b = by_tests (ids-apart columns xs t u p q (and_parts (not (list_any (λ later. same_id columns x.row.values later.values) (plain_rows xs))) (have_own_ids columns (plain_rows xs)) own).1) (t x) (u x) a b where
  no_later : list_any (λ later. same_id columns x.row.values later.values) (plain_rows xs) ≡ false
  no_later = negated (list_any (λ later. same_id columns x.row.values later.values) (plain_rows xs)) (and_parts (not (list_any (λ later. same_id columns x.row.values later.values) (plain_rows xs))) (have_own_ids columns (plain_rows xs)) own).0 where
    negated : (b : Bool) → not b ≡ true → b ≡ false
    negated false h = refl
    negated true h = absurd cc

  by_tests : (find t xs ≡ Some p → find u xs ≡ Some q → (p ≡ q) ⊎ ((same_id columns p.row.values q.row.values ≡ false) ⊎ (same_id columns q.row.values p.row.values ≡ false))) → (s r : Bool) → cond s (Some x) (find t xs) ≡ Some p → cond r (Some x) (find u xs) ≡ Some q → (p ≡ q) ⊎ ((same_id columns p.row.values q.row.values ≡ false) ⊎ (same_id columns q.row.values p.row.values ≡ false))
  by_tests more true true a b = let one : x ≡ p = cc in let two : x ≡ q = cc in inl (sym one ∙ two)
  by_tests more true false a b =
      let one : x ≡ p = cc in
      inr (inl (ap (λ y. same_id columns y.row.values q.row.values) (sym one) ∙ none_such (λ later. same_id columns x.row.values later.values) u xs q no_later b))
  by_tests more false true a b =
      let two : x ≡ q = cc in
      inr (inr (ap (λ y. same_id columns y.row.values p.row.values) (sym two) ∙ none_such (λ later. same_id columns x.row.values later.values) t xs p no_later a))
  by_tests more false false a b = more a b

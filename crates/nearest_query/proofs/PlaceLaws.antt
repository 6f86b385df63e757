-- Rows that are found at places, in chunks and by rowids.
use Rattle.std.proofs.Common.{◌≡◌, ℕ, suc, ℤ, ◌<◌, Bool, true, false, cond, List, [], ◌∷◌, length, get_or, refl, sym, ap, ◌∙◌, arith, inl, inr, subst, Some, None}
use Rattle.std.specs.Prelude.{⊤, AllPairs, ◌==◌, find, int_lt}
use Rattle.std.specs.List.{list_all, AllByRecursion}
use Rattle.std.specs.Ordering.{int_eq}
use Rattle.std.proofs.lemmas.Bool.{and_parts, cases_Bool}
use Rattle.std.proofs.lemmas.Cmp.{int_eq_equiv}
use Rattle.std.proofs.lemmas.Int.{ints}
use Rattle.vec_base.proofs.RankLaws.{each_anyway}
use Rattle.row_model.specs.Rows.{is_rising}
use Rattle.row_model.specs.declared.row.Row.{Row}
use Rattle.row_model.specs.declared.schema.Column.{Column}
use Rattle.shadow_records.specs.PlacedTables.{PlacedRow, AreAlike, AreApart, first_in, is_at, partition_of, plain_rows, row_at, row_of}
use Rattle.table_version.proofs.StoredLaws.{found-one}
use Rattle.nearest_query.proofs.Gathering.{AreFree}

-- ---- what is found

pub found_passes : {A : Type 0} (test : A → Bool) (xs : List A) (x : A) → find test xs ≡ Some x → test x ≡ true
found_passes test xs x is = (found-one (λ y. ⊤) test xs x (each_anyway (λ y. ⊤) (λ y. tt) xs) is).1

each_plain : (P : Row → Type 0) (rows : List PlacedRow) → AllByRecursion P (plain_rows rows) → AllByRecursion (λ p. P p.row) rows
each_plain P [] each = tt
each_plain P (p ∷ ps) each = (each.0, each_plain P ps each.1)

-- what holds of each row holds of the row at a place
pub row_there : (P : Row → Type 0) (rows : List PlacedRow) (c s : ℕ) (p : PlacedRow) → AllByRecursion P (plain_rows rows) → row_at rows c s ≡ Some p → P p.row
row_there P rows c s p each is = (found-one (λ q. P q.row) (is_at c s) rows p (each_plain P rows each) is).0

each_true : {A : Type 0} (test : A → Bool) (xs : List A) → list_all test xs ≡ true → AllByRecursion (λ x. test x ≡ true) xs
each_true test [] all = tt
each_true test (x ∷ xs) all = let parts = and_parts (test x) (list_all test xs) all in (parts.0, each_true test xs parts.1)

pub all_there : (test : Row → Bool) (rows : List PlacedRow) (c s : ℕ) (p : PlacedRow) → list_all test (plain_rows rows) ≡ true → row_at rows c s ≡ Some p → test p.row ≡ true
all_there test rows c s p all is = row_there (λ r. test r ≡ true) rows c s p (each_true test (plain_rows rows) all) is

-- ---- pairs

each_by_index : {A : Type 0} (P : A → Type 0) (xs : List A) → ((i : ℕ) (d : A) → i < length xs → P (get_or xs i d)) → AllByRecursion P xs
each_by_index P [] at = tt
each_by_index P (x ∷ xs) at = (at 0 x (omega arith), each_by_index P xs (λ i d less. at (suc i) d (omega arith)))

first_pairs : {A : Type 0} (R : A → A → Type 0) (x : A) (xs : List A) → AllPairs R (x ∷ xs) → AllByRecursion (R x) xs
first_pairs R x xs pairs = each_by_index (R x) xs (λ i d less. pairs 0 (suc i) d (omega arith) (omega arith))

later_pairs : {A : Type 0} (R : A → A → Type 0) (x : A) (xs : List A) → AllPairs R (x ∷ xs) → AllPairs R xs
later_pairs R x xs pairs = λ i j d less within. pairs (suc i) (suc j) d (omega arith) (omega arith)

nothing_at : (p : PlacedRow) (rows : List PlacedRow) → AllByRecursion (AreApart p) rows → row_at rows p.chunk p.slot ≡ None
nothing_at p [] apart = refl
nothing_at p (q ∷ rows) apart =
    elim (cases_Bool (is_at p.chunk p.slot q)) [
      | inl there ↦
          let parts = and_parts (q.chunk == p.chunk) (q.slot == p.slot) there in
          let chunk : p.chunk ≡ q.chunk = (let e = parts.0 in grind (arith, e)) in
          let slot : p.slot ≡ q.slot = (let e = parts.1 in grind (arith, e)) in
          absurd (apart.0 chunk slot)
      | inr away ↦ ap (λ b. cond b (Some q) (row_at rows p.chunk p.slot)) away ∙ nothing_at p rows apart.1
    ]

pub are_free : (rows : List PlacedRow) → AllPairs AreApart rows → AreFree rows
are_free [] apart = tt
are_free (p ∷ rows) apart = (nothing_at p rows (first_pairs AreApart p rows apart), are_free rows (later_pairs AreApart p rows apart))

-- ---- rows of a chunk

pub some_row : (p q : PlacedRow) → Some p ≡ Some q → p ≡ q
some_row p q same = cc

is_itself : (n : ℕ) → n == n ≡ true
is_itself n = grind arith

-- the first row of a chunk stands there
pub first-row : (rows : List PlacedRow) (c : ℕ) (p : PlacedRow) → first_in rows c ≡ Some p → row_at rows c p.slot ≡ Some p
first-row [] c p is = absurd cc
first-row (q ∷ rows) c p is =
    elim (cases_Bool (q.chunk == c)) [
      | inl here ↦
          let same : q ≡ p = some_row q p (sym (ap (λ b. cond b (Some q) (first_in rows c)) here) ∙ is) in
          let P : PlacedRow → Type 0 = λ x. row_at (q ∷ rows) c x.slot ≡ Some x in
          let at : is_at c q.slot q ≡ true = rw (here, is_itself q.slot) refl in
          subst P same (ap (λ b. cond b (Some q) (row_at rows c q.slot)) at)
      | inr away ↦
          let rest : first_in rows c ≡ Some p = sym (ap (λ b. cond b (Some q) (first_in rows c)) away) ∙ is in
          let off : is_at c p.slot q ≡ false = rw away refl in
          ap (λ b. cond b (Some q) (row_at rows c p.slot)) off ∙ first-row rows c p rest
    ]

-- and a chunk without a first row has none
pub none-in : (rows : List PlacedRow) (c s : ℕ) → first_in rows c ≡ None → row_at rows c s ≡ None
none-in [] c s is = refl
none-in (q ∷ rows) c s is =
    elim (cases_Bool (q.chunk == c)) [
      | inl here ↦ absurd (let some = sym is ∙ ap (λ b. cond b (Some q) (first_in rows c)) here in cc)
      | inr away ↦
          let rest : first_in rows c ≡ None = sym (ap (λ b. cond b (Some q) (first_in rows c)) away) ∙ is in
          let off : is_at c s q ≡ false = rw away refl in
          ap (λ b. cond b (Some q) (row_at rows c s)) off ∙ none-in rows c s rest
    ]

alike_later : (columns : List Column) (q : PlacedRow) (rows : List PlacedRow) (c s : ℕ) (p : PlacedRow) → q.chunk ≡ c → AllByRecursion (AreAlike columns q) rows → row_at rows c s ≡ Some p →
    partition_of columns p.row.values ≡ partition_of columns q.row.values
alike_later columns q rows c s p at alike is =
    let there = found-one (AreAlike columns q) (is_at c s) rows p alike is in
    let parts = and_parts (p.chunk == c) (p.slot == s) there.1 in
    let chunk : p.chunk ≡ c = (let e = parts.0 in grind (arith, e)) in
    sym (there.0 (at ∙ sym chunk))

-- a row has the partition values of the first row of its chunk
pub alike_first : (columns : List Column) (rows : List PlacedRow) (c s : ℕ) (q p : PlacedRow) → AllPairs (AreAlike columns) rows → first_in rows c ≡ Some q → row_at rows c s ≡ Some p →
    partition_of columns p.row.values ≡ partition_of columns q.row.values
alike_first columns [] c s q p alike first is = absurd cc
alike_first columns (x ∷ rows) c s q p alike first is =
    elim (cases_Bool (x.chunk == c)) [
      | inl here ↦
          let same : x ≡ q = some_row x q (sym (ap (λ b. cond b (Some x) (first_in rows c)) here) ∙ first) in
          let at : x.chunk ≡ c = grind (arith, here) in
          elim (cases_Bool (is_at c s x)) [
            | inl there ↦
                let one : x ≡ p = some_row x p (sym (ap (λ b. cond b (Some x) (row_at rows c s)) there) ∙ is) in
                ap (λ (y : PlacedRow). partition_of columns y.row.values) (sym one ∙ same)
            | inr away ↦
                let later : row_at rows c s ≡ Some p = sym (ap (λ b. cond b (Some x) (row_at rows c s)) away) ∙ is in
                alike_later columns x rows c s p at (first_pairs (AreAlike columns) x rows alike) later
                ∙ ap (λ (y : PlacedRow). partition_of columns y.row.values) same
          ]
      | inr away ↦
          let rest : first_in rows c ≡ Some q = sym (ap (λ b. cond b (Some x) (first_in rows c)) away) ∙ first in
          let off : is_at c s x ≡ false = rw away refl in
          let later : row_at rows c s ≡ Some p = sym (ap (λ b. cond b (Some x) (row_at rows c s)) off) ∙ is in
          alike_first columns rows c s q p (later_pairs (AreAlike columns) x rows alike) rest later
    ]

-- ---- the row of a rowid

not_equal : (a b : ℤ) → int_lt a b ≡ true → int_eq a b ≡ false
not_equal a b h = grind (arith, ints)

-- a row at a place is the row of its rowid
pub row-of_place : (rows : List PlacedRow) (c s : ℕ) (p : PlacedRow) → is_rising (plain_rows rows) ≡ true → row_at rows c s ≡ Some p → row_of rows p.row.rowid ≡ Some p
row-of_place [] c s p rising is = absurd cc
row-of_place (q ∷ rows) c s p rising is =
    let parts = and_parts (list_all (λ r. int_lt q.row.rowid r.rowid) (plain_rows rows)) (is_rising (plain_rows rows)) rising in
    elim (cases_Bool (is_at c s q)) [
      | inl there ↦
          let same : q ≡ p = some_row q p (sym (ap (λ b. cond b (Some q) (row_at rows c s)) there) ∙ is) in
          ap (λ b. cond b (Some q) (row_of rows p.row.rowid)) (ap (λ (x : PlacedRow). int_eq x.row.rowid p.row.rowid) same ∙ int_eq_equiv.refl p.row.rowid) ∙ ap (λ (x : PlacedRow). Some x) same
      | inr away ↦
          let later : row_at rows c s ≡ Some p = sym (ap (λ b. cond b (Some q) (row_at rows c s)) away) ∙ is in
          let above = all_there (λ r. int_lt q.row.rowid r.rowid) rows c s p parts.0 later in
          ap (λ b. cond b (Some q) (row_of rows p.row.rowid)) (not_equal q.row.rowid p.row.rowid above) ∙ row-of_place rows c s p parts.1 later
    ]

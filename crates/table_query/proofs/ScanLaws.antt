-- Which row a scan comes to next, and that it comes to an end.
use Rattle.std.proofs.Common.{◌≡◌, ℤ, suc, ◌<◌, ◌≤◌, Bool, true, false, cond, List, [], ◌∷◌, length, refl, sym, ap, subst, ◌∙◌, arith, Option, Some, None}
use Rattle.std.specs.Prelude.{int_lt, ◌&&◌, filter, find}
use Rattle.std.specs.List.{list_all}
use Rattle.std.specs.Option.{option_map}
use Rattle.std.proofs.lemmas.Bool.{and_parts, cond-true, cond-false}
use Rattle.std.proofs.lemmas.Int.{ints}
use Rattle.row_model.specs.Rows.{is_rising}
use Rattle.row_model.specs.Values.{meets_all}
use Rattle.row_model.specs.declared.row.Row.{Row}
use Rattle.row_model.specs.declared.schema.Column.{Column}
use Rattle.row_model.specs.declared.statement.Constraint.{Constraint}
use Rattle.row_store.specs.Keyed.{keys_rise}
use Rattle.row_store.specs.StoredRows.{is_above}
use Rattle.table_query.proofs.FindLaws.{found_such, found_by_key, mapped_none, mapped_some}
use Rattle.shadow_records.specs.PlacedTables.{PlacedRow, plain_rows, row_of}
use Rattle.table_query.specs.Met.{is_met, next_met, rowid_of}
use Rattle.table_version.specs.Versions.{next_row, rowid_in}

-- ---- rowids in their order

up : (after : Option ℤ) (a b : ℤ) → is_above after a ≡ true → int_lt a b ≡ true → is_above after b ≡ true
up None a b above lt = refl
up (Some i) a b above lt = grind (arith, ints)

lt_behind : (a b : ℤ) → int_lt a b ≡ true → int_lt b a ≡ false
lt_behind a b h = grind (arith, ints)

lt_own : (a : ℤ) → int_lt a a ≡ false
lt_own a = grind (arith, ints)

above_plain : (i : ℤ) (ps : List PlacedRow) → list_all (λ (r : Row). int_lt i r.rowid) (plain_rows ps) ≡ list_all (λ (p : PlacedRow). int_lt i p.row.rowid) ps
above_plain i [] = refl
above_plain i (p ∷ ps) = ap (λ b. int_lt i p.row.rowid && b) (above_plain i ps)

pub placed_rise : (ps : List PlacedRow) → is_rising (plain_rows ps) ≡ keys_rise rowid_in ps
placed_rise [] = refl
placed_rise (p ∷ ps) = ap (λ b. b && is_rising (plain_rows ps)) (above_plain p.row.rowid ps) ∙ ap (λ b. list_all (λ (q : PlacedRow). int_lt p.row.rowid q.row.rowid) ps && b) (placed_rise ps)

-- ---- the first row above a rowid

abbrev pub from_rows : (Row → Bool) → Option ℤ → List PlacedRow → Option Row
from_rows such after ps = find (λ (r : Row). is_above after r.rowid) (filter such (plain_rows ps))

-- a row that is not above it makes no difference
passed_by : (such : Row → Bool) (after : Option ℤ) (p : PlacedRow) (ps : List PlacedRow) → is_above after p.row.rowid ≡ false → from_rows such after (p ∷ ps) ≡ from_rows such after ps
passed_by such after p ps below =
    elim (such p.row) as (λ b. find (λ (r : Row). is_above after r.rowid) (cond b (p.row ∷ filter such (plain_rows ps)) (filter such (plain_rows ps))) ≡ from_rows such after ps)
    [ true ↦ cond-false _ _ _ below | false ↦ refl ]

left_out : (such : Row → Bool) (after : Option ℤ) (p : PlacedRow) (ps : List PlacedRow) → such p.row ≡ false → from_rows such after (p ∷ ps) ≡ from_rows such after ps
left_out such after p ps fails = ap (λ b. find (λ (r : Row). is_above after r.rowid) (cond b (p.row ∷ filter such (plain_rows ps)) (filter such (plain_rows ps)))) fails

-- the next row is the answer where it is such a row
such_next : (such : Row → Bool) (after : Option ℤ) (ps : List PlacedRow) (p : PlacedRow) → next_row after ps ≡ Some p → such p.row ≡ true → from_rows such after ps ≡ Some p.row
such_next such after [] p is holds = absurd cc
such_next such after (x ∷ xs) p is holds = by_test (is_above after x.row.rowid) refl is (λ later. such_next such after xs p later holds) where
  by_test : (b : Bool) → is_above after x.row.rowid ≡ b → cond b (Some x) (next_row after xs) ≡ Some p → (next_row after xs ≡ Some p → from_rows such after xs ≡ Some p.row) →
      from_rows such after (x ∷ xs) ≡ Some p.row
  by_test true e h rest =
      let x_is : x ≡ p = cc in
      let here : such x.row ≡ true = ap (λ (q : PlacedRow). such q.row) x_is ∙ holds in
      ap (λ b. find (λ (r : Row). is_above after r.rowid) (cond b (x.row ∷ filter such (plain_rows xs)) (filter such (plain_rows xs)))) here
      ∙ cond-true _ _ _ e ∙ ap (λ (q : PlacedRow). Some q.row) x_is
  by_test false e h rest = passed_by such after x xs e ∙ rest h

none_next : (such : Row → Bool) (after : Option ℤ) (ps : List PlacedRow) → next_row after ps ≡ None → from_rows such after ps ≡ None
none_next such after [] is = refl
none_next such after (x ∷ xs) is = by_test (is_above after x.row.rowid) refl is (λ later. none_next such after xs later) where
  by_test : (b : Bool) → is_above after x.row.rowid ≡ b → cond b (Some x) (next_row after xs) ≡ None → (next_row after xs ≡ None → from_rows such after xs ≡ None) → from_rows such after (x ∷ xs) ≡ None
  by_test true e h rest = absurd cc
  by_test false e h rest = passed_by such after x xs e ∙ rest h

-- of rows that are all above, both answers are the first
alike : (such : Row → Bool) (a b : Option ℤ) (i : ℤ) (ps : List PlacedRow) → is_above a i ≡ true → ((j : ℤ) → int_lt i j ≡ true → is_above b j ≡ true) →
    list_all (λ (p : PlacedRow). int_lt i p.row.rowid) ps ≡ true → from_rows such b ps ≡ from_rows such a ps
alike such a b i [] at up_b all = refl
alike such a b i (x ∷ xs) at up_b all =
    let parts = and_parts (int_lt i x.row.rowid) (list_all (λ (p : PlacedRow). int_lt i p.row.rowid) xs) all in
    let rest = alike such a b i xs at up_b parts.1 in
    elim (such x.row) as (λ c. find (λ (r : Row). is_above b r.rowid) (cond c (x.row ∷ filter such (plain_rows xs)) (filter such (plain_rows xs)))
    ≡ find (λ (r : Row). is_above a r.rowid) (cond c (x.row ∷ filter such (plain_rows xs)) (filter such (plain_rows xs))))
    [ true ↦ cond-true _ _ _ (up_b x.row.rowid parts.0) ∙ sym (cond-true _ _ _ (up a i x.row.rowid at parts.0)) | false ↦ rest ]

-- where the next row is no such row, the answer is the one from there on
other_next : (such : Row → Bool) (after : Option ℤ) (ps : List PlacedRow) (p : PlacedRow) → keys_rise rowid_in ps ≡ true → next_row after ps ≡ Some p → such p.row ≡ false →
    from_rows such (Some p.row.rowid) ps ≡ from_rows such after ps
other_next such after [] p rise is fails = absurd cc
other_next such after (x ∷ xs) p rise is fails = by_test (is_above after x.row.rowid) refl is (λ later. other_next such after xs p (and_parts _ _ rise).1 later fails) where
  by_test : (b : Bool) → is_above after x.row.rowid ≡ b → cond b (Some x) (next_row after xs) ≡ Some p → (next_row after xs ≡ Some p → from_rows such (Some p.row.rowid) xs ≡ from_rows such after xs) →
      from_rows such (Some p.row.rowid) (x ∷ xs) ≡ from_rows such after (x ∷ xs)
  by_test true e h rest =
      let x_is : x ≡ p = cc in
      let here : such x.row ≡ false = ap (λ (q : PlacedRow). such q.row) x_is ∙ fails in
      let id_is : x.row.rowid ≡ p.row.rowid = ap rowid_in x_is in
      let at : is_above after p.row.rowid ≡ true = ap (is_above after) (sym id_is) ∙ e in
      let all : list_all (λ (q : PlacedRow). int_lt p.row.rowid q.row.rowid) xs ≡ true = ap (λ i. list_all (λ (q : PlacedRow). int_lt i q.row.rowid) xs) (sym id_is) ∙ (and_parts _ _ rise).0 in
      left_out such (Some p.row.rowid) x xs here ∙ alike such after (Some p.row.rowid) p.row.rowid xs at (λ j lt. lt) all ∙ sym (left_out such after x xs here)
  by_test false e h rest =
      let below : int_lt p.row.rowid x.row.rowid ≡ false = lt_behind x.row.rowid p.row.rowid (found_such (λ (q : PlacedRow). int_lt x.row.rowid q.row.rowid) (λ (q : PlacedRow). is_above after q.row.rowid) xs p (and_parts _ _ rise).0 h) in
      passed_by such (Some p.row.rowid) x xs below ∙ rest h ∙ sym (passed_by such after x xs e)

-- ---- how many rows are above a rowid

abbrev pub above : Option ℤ → List PlacedRow → List PlacedRow
above after ps = filter (λ p. is_above after p.row.rowid) ps

at_least : (b : Bool) (y : PlacedRow) (ys : List PlacedRow) → length ys ≤ length (cond b (y ∷ ys) ys)
at_least true y ys = omega arith
at_least false y ys = omega arith

fewer : (after : Option ℤ) (i : ℤ) (ps : List PlacedRow) → is_above after i ≡ true → length (above (Some i) ps) ≤ length (above after ps)
fewer after i [] at = omega arith
fewer after i (x ∷ xs) at = by_test (int_lt i x.row.rowid) refl (fewer after i xs at) where
  by_test : (b : Bool) → int_lt i x.row.rowid ≡ b → length (above (Some i) xs) ≤ length (above after xs) → length (above (Some i) (x ∷ xs)) ≤ length (above after (x ∷ xs))
  by_test true e rest =
      let one : length (above (Some i) (x ∷ xs)) ≡ suc (length (above (Some i) xs)) = ap length (cond-true _ _ _ e) in
      let other : length (above after (x ∷ xs)) ≡ suc (length (above after xs)) = ap length (cond-true _ _ _ (up after i x.row.rowid at e)) in
      omega (arith, one, other, rest)
  by_test false e rest =
      let one : length (above (Some i) (x ∷ xs)) ≡ length (above (Some i) xs) = ap length (cond-false _ _ _ e) in
      let other : length (above after xs) ≤ length (above after (x ∷ xs)) = at_least (is_above after x.row.rowid) x (above after xs) in
      omega (arith, one, other, rest)

fewer_next : (after : Option ℤ) (ps : List PlacedRow) (p : PlacedRow) → keys_rise rowid_in ps ≡ true → next_row after ps ≡ Some p → length (above (Some p.row.rowid) ps) < length (above after ps)
fewer_next after [] p rise is = absurd cc
fewer_next after (x ∷ xs) p rise is = by_test (is_above after x.row.rowid) refl is (λ later. fewer_next after xs p (and_parts _ _ rise).1 later) where
  by_test : (b : Bool) → is_above after x.row.rowid ≡ b → cond b (Some x) (next_row after xs) ≡ Some p → (next_row after xs ≡ Some p → length (above (Some p.row.rowid) xs) < length (above after xs)) →
      length (above (Some p.row.rowid) (x ∷ xs)) < length (above after (x ∷ xs))
  by_test true e h rest =
      let x_is : x ≡ p = cc in
      let id_is : x.row.rowid ≡ p.row.rowid = ap rowid_in x_is in
      let own : int_lt p.row.rowid x.row.rowid ≡ false = ap (int_lt p.row.rowid) id_is ∙ lt_own p.row.rowid in
      let at : is_above after p.row.rowid ≡ true = ap (is_above after) (sym id_is) ∙ e in
      let one : length (above (Some p.row.rowid) (x ∷ xs)) ≡ length (above (Some p.row.rowid) xs) = ap length (cond-false _ _ _ own) in
      let other : length (above after (x ∷ xs)) ≡ suc (length (above after xs)) = ap length (cond-true _ _ _ e) in
      let less = fewer after p.row.rowid xs at in
      omega (arith, one, other, less)
  by_test false e h rest =
      let below : int_lt p.row.rowid x.row.rowid ≡ false = lt_behind x.row.rowid p.row.rowid (found_such (λ (q : PlacedRow). int_lt x.row.rowid q.row.rowid) (λ (q : PlacedRow). is_above after q.row.rowid) xs p (and_parts _ _ rise).0 h) in
      let one : length (above (Some p.row.rowid) (x ∷ xs)) ≡ length (above (Some p.row.rowid) xs) = ap length (cond-false _ _ _ below) in
      let other : length (above after (x ∷ xs)) ≡ length (above after xs) = ap length (cond-false _ _ _ e) in
      let less = rest h in
      omega (arith, one, other, less)

-- ---- what a scan is told

-- a row that was found is the row of its rowid
is_row : (columns : List Column) (terms : List Constraint) (after : Option ℤ) (rows : List PlacedRow) (p : PlacedRow) → is_rising (plain_rows rows) ≡ true → next_row after rows ≡ Some p →
    is_met columns terms (row_of rows p.row.rowid) ≡ meets_all columns terms p.row
is_row columns terms after rows p rising found =
    ap (is_met columns terms) (found_by_key rowid_in (λ (q : PlacedRow). is_above after q.row.rowid) rows p (sym (placed_rise rows) ∙ rising) found)

-- the next row is the answer
pub found_next : (columns : List Column) (terms : List Constraint) (after : Option ℤ) (rows : List PlacedRow) (rowid : ℤ) → is_rising (plain_rows rows) ≡ true →
    option_map rowid_in (next_row after rows) ≡ Some rowid → is_met columns terms (row_of rows rowid) ≡ true → option_map rowid_of (next_met columns terms after (plain_rows rows)) ≡ Some rowid
found_next columns terms after rows rowid rising found meets =
    let from = mapped_some rowid_in (next_row after rows) rowid found in
    let p = from.0 in
    let holds : meets_all columns terms p.row ≡ true = sym (is_row columns terms after rows p rising from.1.0) ∙ ap (λ i. is_met columns terms (row_of rows i)) from.1.1 ∙ meets in
    ap (option_map rowid_of) (such_next (meets_all columns terms) after rows p from.1.0 holds) ∙ ap Some from.1.1

-- it is not, and the scan goes on from it
pub goes_on : (columns : List Column) (terms : List Constraint) (after : Option ℤ) (rows : List PlacedRow) (rowid : ℤ) → is_rising (plain_rows rows) ≡ true →
    option_map rowid_in (next_row after rows) ≡ Some rowid → is_met columns terms (row_of rows rowid) ≡ false → next_met columns terms (Some rowid) (plain_rows rows) ≡ next_met columns terms after (plain_rows rows)
goes_on columns terms after rows rowid rising found misses =
    let from = mapped_some rowid_in (next_row after rows) rowid found in
    let p = from.0 in
    let fails : meets_all columns terms p.row ≡ false = sym (is_row columns terms after rows p rising from.1.0) ∙ ap (λ i. is_met columns terms (row_of rows i)) from.1.1 ∙ misses in
    ap (λ i. next_met columns terms (Some i) (plain_rows rows)) (sym from.1.1) ∙ other_next (meets_all columns terms) after rows p (sym (placed_rise rows) ∙ rising) from.1.0 fails

-- there is none
pub ends : (columns : List Column) (terms : List Constraint) (after : Option ℤ) (rows : List PlacedRow) → option_map rowid_in (next_row after rows) ≡ None → next_met columns terms after (plain_rows rows) ≡ None
ends columns terms after rows none = none_next (meets_all columns terms) after rows (mapped_none rowid_in (next_row after rows) none)

pub less_left : (after : Option ℤ) (rows : List PlacedRow) (rowid : ℤ) → is_rising (plain_rows rows) ≡ true → option_map rowid_in (next_row after rows) ≡ Some rowid →
    length (above (Some rowid) rows) < length (above after rows)
less_left after rows rowid rising found =
    let from = mapped_some rowid_in (next_row after rows) rowid found in
    subst (λ (i : ℤ). length (above (Some i) rows) < length (above after rows)) from.1.1 (fewer_next after rows from.0 (sym (placed_rise rows) ∙ rising) from.1.0)

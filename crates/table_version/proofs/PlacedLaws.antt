-- A table whose rows have sound places keeps them with one row more or less.
use Rattle.std.proofs.Common.{◌≡◌, ℕ, suc, ℤ, ◌+◌, ◌<◌, ◌≤◌, Bool, true, false, cond, List, [], ◌∷◌, ◌∙◌, refl, sym, ap, subst, arith, length, map, Some, None}
use Rattle.std.specs.Prelude.{◌==◌, ◌&&◌, not, find, int_lt, slice_index_or, if◌then◌else◌}
use Rattle.std.specs.List.{list_all, AllByRecursion, AllPairs}
use Rattle.std.specs.Ordering.{int_eq}
use Rattle.std.proofs.lemmas.Bool.{and_parts, and_from, eqb-true, eq-eqb}
use Rattle.std.proofs.lemmas.List.Elements.{All-from_recursion}
use Rattle.std.proofs.lemmas.List.Kept.{AllPairs-cons, AllPairs-filter}
use Rattle.vec_base.specs.declared.limits.TheConstants.{MOST_ROWS}
use Rattle.row_model.specs.Change.{same_id, with_rows}
use Rattle.row_model.specs.Rows.{has_rowid, with_row}
use Rattle.row_model.specs.Valid.{is_valid_row, IsRepresentableRow, IsValidTable}
use Rattle.row_model.specs.declared.row.Row.{Row}
use Rattle.row_model.specs.declared.schema.Column.{Column}
use Rattle.row_model.proofs.ValidityRows.{all_filter}
use Rattle.shadow_records.specs.PlacedTables.{PlacedRow, PlacedTable, plain_rows, plain, is_at, row_at, first_in, partition_of, is_place, AreApart, AreAlike, IsPlaced}
use Rattle.table_version.proofs.ByteLaws.{without}
use Rattle.table_version.proofs.ValidityLaws.{valid-with_row, valid-without}
use Rattle.table_version.specs.PlacedRows.{with_placed, without_placed, table_with, table_without}

-- ---- the rows without their places

pub plain-with : (new : PlacedRow) (ps : List PlacedRow) → plain_rows (with_placed new ps) ≡ with_row new.row (plain_rows ps)
plain-with new [] = refl
plain-with new (p ∷ ps) =
    elim (int_lt new.row.rowid p.row.rowid) as (λ b. plain_rows (if b then new ∷ p ∷ ps else p ∷ with_placed new ps) ≡ (if b then new.row ∷ p.row ∷ plain_rows ps else p.row ∷ with_row new.row (plain_rows ps)))
    [ true ↦ refl | false ↦ ap (λ (rows : List Row). p.row ∷ rows) (plain-with new ps) ]

pub plain-without : (rowid : ℤ) (ps : List PlacedRow) → plain_rows (without_placed rowid ps) ≡ without rowid (plain_rows ps)
plain-without rowid [] = refl
plain-without rowid (p ∷ ps) =
    elim (not (int_eq p.row.rowid rowid)) as (λ b. plain_rows (cond b (p ∷ without_placed rowid ps) (without_placed rowid ps)) ≡ cond b (p.row ∷ without rowid (plain_rows ps)) (without rowid (plain_rows ps)))
    [ true ↦ ap (λ (rows : List Row). p.row ∷ rows) (plain-without rowid ps) | false ↦ plain-without rowid ps ]

length_plain : (ps : List PlacedRow) → length (plain_rows ps) ≡ length ps
length_plain [] = refl
length_plain (p ∷ ps) = ap suc (length_plain ps)

-- ---- what holds of each, and of each two

places_with : (such : PlacedRow → Bool) (new : PlacedRow) (ps : List PlacedRow) → such new ≡ true → list_all such ps ≡ true → list_all such (with_placed new ps) ≡ true
places_with such new [] here all = and_from _ _ here refl
places_with such new (p ∷ ps) here all =
    elim (int_lt new.row.rowid p.row.rowid) as (λ b. list_all such (if b then new ∷ p ∷ ps else p ∷ with_placed new ps) ≡ true)
    [ true ↦ and_from _ _ here all | false ↦ and_from _ _ (and_parts _ _ all).0 (places_with such new ps here (and_parts _ _ all).1) ]

each_with : (P : PlacedRow → Type 0) (new : PlacedRow) (ps : List PlacedRow) → P new → AllByRecursion P ps → AllByRecursion P (with_placed new ps)
each_with P new [] here all = (here, tt)
each_with P new (p ∷ ps) here all =
    elim (int_lt new.row.rowid p.row.rowid) as (λ b. AllByRecursion P (if b then new ∷ p ∷ ps else p ∷ with_placed new ps))
    [ true ↦ (here, all) | false ↦ (all.0, each_with P new ps here all.1) ]

-- what the first has with each later one
firsts : (R : PlacedRow → PlacedRow → Type 0) (p : PlacedRow) (ps : List PlacedRow) → AllPairs R (p ∷ ps) → AllByRecursion (R p) ps
firsts R p ps pairs = from_all ps (λ k d low. pairs 0 (suc k) d (omega arith) (omega (arith, low)))
  where
    from_all : (qs : List PlacedRow) → ((k : ℕ) (d : PlacedRow) → k < length qs → R p (slice_index_or qs k d)) → AllByRecursion (R p) qs
    from_all [] all = tt
    from_all (q ∷ qs) all = (all 0 q (omega arith), from_all qs (λ k d low. all (suc k) d (omega (arith, low))))

laters : (R : PlacedRow → PlacedRow → Type 0) (p : PlacedRow) (ps : List PlacedRow) → AllPairs R (p ∷ ps) → AllPairs R ps
laters R p ps pairs i j d low high = pairs (suc i) (suc j) d (omega (arith, low)) (omega (arith, high))

pairs_with : (R : PlacedRow → PlacedRow → Type 0) (new : PlacedRow) (ps : List PlacedRow) → ((p q : PlacedRow) → R p q → R q p) → AllByRecursion (R new) ps → AllPairs R ps → AllPairs R (with_placed new ps)
pairs_with R new [] turn all pairs = AllPairs-cons R new [] (All-from_recursion (R new) [] tt) pairs
pairs_with R new (p ∷ ps) turn all pairs =
    elim (int_lt new.row.rowid p.row.rowid) as (λ b. AllPairs R (if b then new ∷ p ∷ ps else p ∷ with_placed new ps)) [
      | true ↦ AllPairs-cons R new (p ∷ ps) (All-from_recursion (R new) (p ∷ ps) all) pairs
      | false ↦ AllPairs-cons R p (with_placed new ps)
          (All-from_recursion (R p) (with_placed new ps) (each_with (R p) new ps (turn new p all.0) (firsts R p ps pairs)))
          (pairs_with R new ps turn all.1 (laters R p ps pairs))
    ]

each_map : (R : PlacedRow → PlacedRow → Type 0) (g : PlacedRow → PlacedRow) (p : PlacedRow) (ps : List PlacedRow) → ((q : PlacedRow) → R p q → R (g p) (g q)) → AllByRecursion (R p) ps → AllByRecursion (R (g p)) (map g ps)
each_map R g p [] keep all = tt
each_map R g p (q ∷ qs) keep all = (keep q all.0, each_map R g p qs keep all.1)

-- what each two rows have they have after a change that keeps it
pub pairs_map : (R : PlacedRow → PlacedRow → Type 0) (g : PlacedRow → PlacedRow) (ps : List PlacedRow) → ((p q : PlacedRow) → R p q → R (g p) (g q)) → AllPairs R ps → AllPairs R (map g ps)
pairs_map R g [] keep pairs = λ i j d low high. absurd (omega (arith, high))
pairs_map R g (p ∷ ps) keep pairs =
    AllPairs-cons R (g p) (map g ps) (All-from_recursion (R (g p)) (map g ps) (each_map R g p ps (keep p) (firsts R p ps pairs))) (pairs_map R g ps keep (laters R p ps pairs))

-- ---- one row more

pub record IsPlacedNew (table : PlacedTable) (new : PlacedRow) : Type 0 where
  pub fits : is_valid_row table.schema.columns new.row ≡ true
  pub representable : IsRepresentableRow new.row
  pub rowid : has_rowid new.row.rowid (plain_rows table.rows) ≡ false
  pub id : find (λ r. same_id table.schema.columns new.row.values r.values) (plain_rows table.rows) ≡ None
  pub few : length table.rows + 1 ≤ MOST_ROWS
  pub place : is_place table.schema.chunk_size new ≡ true
  pub apart : AllByRecursion (AreApart new) table.rows
  pub alike : AllByRecursion (AreAlike table.schema.columns new) table.rows

-- A table takes a row whose place is free, in a chunk of its partition values or in a new one.
pub placed-with : (table : PlacedTable) (new : PlacedRow) → IsPlaced table → IsPlacedNew table new → IsPlaced (table_with table new)
placed-with table new placed fresh =
    let few = fresh.few in
    let same = length_plain table.rows in
    let valid = valid-with_row (plain table) new.row placed.valid fresh.fits fresh.representable fresh.rowid fresh.id (omega (arith, few, same)) in
    record {
      valid = subst (λ (rows : List Row). IsValidTable (with_rows (plain (table_with table new)) rows)) (sym (plain-with new table.rows)) valid;
      name = placed.name;
      places = places_with (is_place table.schema.chunk_size) new table.rows fresh.place placed.places;
      apart = pairs_with AreApart new table.rows (λ p q other chunk slot. other (sym chunk) (sym slot)) fresh.apart placed.apart;
      alike = pairs_with (AreAlike table.schema.columns) new table.rows (λ p q same_values chunk. sym (same_values (sym chunk))) fresh.alike placed.alike;
    }

-- ---- one row less

pub placed-without : (table : PlacedTable) (rowid : ℤ) → IsPlaced table → IsPlaced (table_without table rowid)
placed-without table rowid placed =
    let other = λ (p : PlacedRow). not (int_eq p.row.rowid rowid) in
    record {
      valid = subst (λ (rows : List Row). IsValidTable (with_rows (plain table) rows)) (sym (plain-without rowid table.rows)) (valid-without (plain table) rowid placed.valid);
      name = placed.name;
      places = all_filter (is_place table.schema.chunk_size) other table.rows placed.places;
      apart = AllPairs-filter AreApart other table.rows placed.apart;
      alike = AllPairs-filter (AreAlike table.schema.columns) other table.rows placed.alike;
    }

-- ---- where a row may go

-- no row is at the place
pub apart-from : (new : PlacedRow) (ps : List PlacedRow) → row_at ps new.chunk new.slot ≡ None → AllByRecursion (AreApart new) ps
apart-from new [] none = tt
apart-from new (p ∷ ps) none =
    elim (is_at new.chunk new.slot p) as (λ b. is_at new.chunk new.slot p ≡ b → cond b (Some p) (row_at ps new.chunk new.slot) ≡ None → AllByRecursion (AreApart new) (p ∷ ps)) [
      | true ↦ λ e h. absurd cc
      | false ↦ λ e h. ((λ chunk slot. there new.chunk new.slot p.chunk p.slot chunk slot e), apart-from new ps h)
    ] refl none
  where
    there : (c s d t : ℕ) → c ≡ d → s ≡ t → (d == c && t == s) ≡ false → ⊥
    there c s d t chunk slot e =
        let both : (d == c && t == s) ≡ true = and_from (d == c) (t == s) (eq-eqb d c (sym chunk)) (eq-eqb t s (sym slot)) in
        absurd cc

each_alike : (columns : List Column) (new p : PlacedRow) (ps : List PlacedRow) → new.chunk ≡ p.chunk → partition_of columns new.row.values ≡ partition_of columns p.row.values →
    AllByRecursion (AreAlike columns p) ps → AllByRecursion (AreAlike columns new) ps
each_alike columns new p [] chunk same all = tt
each_alike columns new p (q ∷ ps) chunk same all = ((λ there. same ∙ all.0 (sym chunk ∙ there)), each_alike columns new p ps chunk same all.1)

-- the chunk has no row, or its first row has the partition values
pub alike-from : (columns : List Column) (new : PlacedRow) (ps : List PlacedRow) → AllPairs (AreAlike columns) ps →
    ((q : PlacedRow) → first_in ps new.chunk ≡ Some q → partition_of columns new.row.values ≡ partition_of columns q.row.values) → AllByRecursion (AreAlike columns new) ps
alike-from columns new [] pairs same = tt
alike-from columns new (p ∷ ps) pairs same =
    elim (p.chunk == new.chunk) as (λ b. (p.chunk == new.chunk) ≡ b →
    ((q : PlacedRow) → cond b (Some p) (first_in ps new.chunk) ≡ Some q → partition_of columns new.row.values ≡ partition_of columns q.row.values) → AllByRecursion (AreAlike columns new) (p ∷ ps)) [
      | true ↦ λ e h. ((λ there. h p refl), each_alike columns new p ps (sym (eqb-true p.chunk new.chunk e)) (h p refl) (firsts (AreAlike columns) p ps pairs))
      | false ↦ λ e h. ((λ there. absurd (other p.chunk new.chunk e there)), alike-from columns new ps (laters (AreAlike columns) p ps pairs) h)
    ] refl same
  where
    other : (d c : ℕ) → (d == c) ≡ false → c ≡ d → ⊥
    other d c e there = let same_chunk : (d == c) ≡ true = eq-eqb d c (sym there) in absurd cc

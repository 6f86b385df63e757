-- The rowids of the rows that meet the terms of a plan: one row of a point, and the rows of a scan one after another.
use Rattle.std.proofs.Common.{◌≡◌, suc, ℤ, ◌<◌, Bool, true, false, cond, List, [], ◌∷◌, ◌++◌, ◌∙◌, length, map, refl, sym, ap, arith, Option, Some, None}
use Rattle.std.specs.Prelude.{filter, find, int_lt}
use Rattle.std.specs.List.{list_all}
use Rattle.std.specs.Option.{option_map}
use Rattle.std.proofs.lemmas.Bool.{and_parts, cond-false, cond-true}
use Rattle.std.proofs.lemmas.Int.{ints}
use Rattle.knn_plan.specs.Plans.{IsPlanFor, Planned}
use Rattle.row_model.specs.Rows.{is_rising}
use Rattle.row_model.specs.Values.{meets_all, met}
use Rattle.row_model.specs.declared.request.Shape.TheVariants.{Point}
use Rattle.row_model.specs.declared.row.Row.{Row}
use Rattle.row_model.specs.declared.schema.Column.{Column}
use Rattle.row_model.specs.declared.statement.Constraint.{Constraint}
use Rattle.row_model.proofs.ValidityRows.{rising_filter}
use Rattle.row_store.specs.StoredRows.{is_above}
use Rattle.shadow_records.specs.PlacedTables.{IsPlaced, PlacedRow, PlacedTable, plain_rows}
use Rattle.table_query.specs.Met.{next_met, rowid_of}
use Rattle.table_query.proofs.FindLaws.{mapped_none, mapped_some}
use Rattle.table_query.proofs.PointLaws.{point_none, point_one, the_answer}

-- ---- a point

-- the rowids of the rows that meet the terms
abbrev pub met_ids : List Column → List Constraint → List Row → List ℤ
met_ids columns terms rows = map rowid_of (met columns terms rows)

eq_of : (p : PlacedRow) (rowid : ℤ) (o : Option PlacedRow) → o ≡ Some p → option_map (λ (q : PlacedRow). q.row.rowid) o ≡ Some p.row.rowid
eq_of p rowid o is = ap (option_map (λ (q : PlacedRow). q.row.rowid)) is

pub point_ids : (table : PlacedTable) (plan : Planned) → IsPlaced table → IsPlanFor table.schema.columns plan → plan.shape ≡ Point → (rowid : ℤ) → the_answer table plan ≡ Some rowid →
    met_ids table.schema.columns plan.select.where_terms (plain_rows table.rows) ≡ rowid ∷ []
point_ids table plan placed is point rowid answered =
    let one = point_one table plan placed is point rowid answered in
    let first : the_answer table plan ≡ Some one.placed.row.rowid = ap (λ (rows : List Row). option_map rowid_of (find (λ (r : Row). true) rows)) one.only in
    let same : one.placed.row.rowid ≡ rowid = cc in
    ap (map rowid_of) one.only ∙ ap (λ (i : ℤ). i ∷ []) same

pub no_ids : (table : PlacedTable) (plan : Planned) → the_answer table plan ≡ None → met_ids table.schema.columns plan.select.where_terms (plain_rows table.rows) ≡ []
no_ids table plan none = ap (map rowid_of) (point_none table plan none)

-- ---- a scan

-- the rows above a rowid
abbrev pub left_of : Option ℤ → List Row → List Row
left_of after rows = filter (λ (r : Row). is_above after r.rowid) rows

lt_trans : (a b c : ℤ) → int_lt a b ≡ true → int_lt b c ≡ true → int_lt a c ≡ true
lt_trans a b c h k = grind (arith, ints)

not_back : (a b : ℤ) → int_lt a b ≡ true → int_lt b a ≡ false
not_back a b h = grind (arith, ints)

not_self : (a : ℤ) → int_lt a a ≡ false
not_self a = grind (arith, ints)

all_left : (rows : List Row) → left_of None rows ≡ rows
all_left [] = refl
all_left (x ∷ xs) = ap (λ (ys : List Row). x ∷ ys) (all_left xs)

above_first : (after : Option ℤ) (a b : ℤ) → is_above after a ≡ true → int_lt a b ≡ true → is_above after b ≡ true
above_first None a b h k = refl
above_first (Some i) a b h k = lt_trans i a b h k

-- rows above one that is above
all_above : (after : Option ℤ) (n : ℤ) (rows : List Row) → is_above after n ≡ true → list_all (λ (r : Row). int_lt n r.rowid) rows ≡ true → left_of after rows ≡ rows
all_above after n [] h all = refl
all_above after n (x ∷ xs) h all =
    let parts = and_parts (int_lt n x.rowid) (list_all (λ (r : Row). int_lt n r.rowid) xs) all in
    cond-true (is_above after x.rowid) _ _ (above_first after n x.rowid h parts.0) ∙ ap (λ (ys : List Row). x ∷ ys) (all_above after n xs h parts.1)

found_above : (test : Row → Bool) (n : ℤ) (rows : List Row) (row : Row) → list_all (λ (r : Row). int_lt n r.rowid) rows ≡ true → find test rows ≡ Some row → int_lt n row.rowid ≡ true
found_above test n [] row all e = absurd cc
found_above test n (x ∷ xs) row all e =
    let parts = and_parts (int_lt n x.rowid) (list_all (λ (r : Row). int_lt n r.rowid) xs) all in
    by_test (test x) e parts.0 (λ later. found_above test n xs row parts.1 later)
  where
    by_test : (b : Bool) → cond b (Some x) (find test xs) ≡ Some row → int_lt n x.rowid ≡ true → (find test xs ≡ Some row → int_lt n row.rowid ≡ true) → int_lt n row.rowid ≡ true
    by_test true f here later = let same : x ≡ row = cc in ap (λ (r : Row). int_lt n r.rowid) (sym same) ∙ here
    by_test false f here later = later f

-- the next row, and those above it
next_left : (after : Option ℤ) (rows : List Row) (row : Row) → is_rising rows ≡ true → find (λ (r : Row). is_above after r.rowid) rows ≡ Some row → left_of after rows ≡ row ∷ left_of (Some row.rowid) rows
next_left after [] row rising e = absurd cc
next_left after (x ∷ xs) row rising e =
    let parts = and_parts (list_all (λ (r : Row). int_lt x.rowid r.rowid) xs) (is_rising xs) rising in
    by_test (is_above after x.rowid) refl e parts.0 (λ later. next_left after xs row parts.1 later)
  where
    by_test : (b : Bool) → is_above after x.rowid ≡ b → cond b (Some x) (find (λ (r : Row). is_above after r.rowid) xs) ≡ Some row → list_all (λ (r : Row). int_lt x.rowid r.rowid) xs ≡ true →
        (find (λ (r : Row). is_above after r.rowid) xs ≡ Some row → left_of after xs ≡ row ∷ left_of (Some row.rowid) xs) → left_of after (x ∷ xs) ≡ row ∷ left_of (Some row.rowid) (x ∷ xs)
    by_test true is f all later =
        let same : x ≡ row = cc in
        let rest : left_of (Some x.rowid) (x ∷ xs) ≡ xs = cond-false (int_lt x.rowid x.rowid) _ _ (not_self x.rowid) ∙ own xs all in
        cond-true (is_above after x.rowid) _ _ is ∙ ap (λ (ys : List Row). x ∷ ys) (all_above after x.rowid xs is all ∙ sym rest) ∙ ap (λ (r : Row). r ∷ left_of (Some r.rowid) (x ∷ xs)) same
      where
        own : (ys : List Row) → list_all (λ (r : Row). int_lt x.rowid r.rowid) ys ≡ true → left_of (Some x.rowid) ys ≡ ys
        own [] h = refl
        own (y ∷ ys) h =
            let ends = and_parts (int_lt x.rowid y.rowid) (list_all (λ (r : Row). int_lt x.rowid r.rowid) ys) h in
            cond-true (int_lt x.rowid y.rowid) _ _ ends.0 ∙ ap (λ (zs : List Row). y ∷ zs) (own ys ends.1)
    by_test false is f all later =
        let above = found_above (λ (r : Row). is_above after r.rowid) x.rowid xs row all f in
        cond-false (is_above after x.rowid) _ _ is ∙ later f ∙ ap (λ (ys : List Row). row ∷ ys) (sym (cond-false (int_lt row.rowid x.rowid) (x ∷ left_of (Some row.rowid) xs) (left_of (Some row.rowid) xs) (not_back x.rowid row.rowid above)))

none_left : (after : Option ℤ) (rows : List Row) → find (λ (r : Row). is_above after r.rowid) rows ≡ None → left_of after rows ≡ []
none_left after [] e = refl
none_left after (x ∷ xs) e = by_test (is_above after x.rowid) refl e (λ later. none_left after xs later) where
  by_test : (b : Bool) → is_above after x.rowid ≡ b → cond b (Some x) (find (λ (r : Row). is_above after r.rowid) xs) ≡ None → (find (λ (r : Row). is_above after r.rowid) xs ≡ None → left_of after xs ≡ []) → left_of after (x ∷ xs) ≡ []
  by_test true is f later = absurd cc
  by_test false is f later = cond-false (is_above after x.rowid) _ _ is ∙ later f

append_nil : (xs : List ℤ) → xs ++ [] ≡ xs
append_nil [] = refl
append_nil (x ∷ xs) = ap (λ (ys : List ℤ). x ∷ ys) (append_nil xs)

append_one : (xs : List ℤ) (y : ℤ) (ys : List ℤ) → xs ++ (y ∷ ys) ≡ (xs ++ y ∷ []) ++ ys
append_one [] y ys = refl
append_one (x ∷ xs) y ys = ap (λ (zs : List ℤ). x ∷ zs) (append_one xs y ys)

-- the rowids so far, and those of the rows that are left
abbrev pub IsScanned : List Column → List Constraint → List Row → List ℤ → Option ℤ → Type 0
IsScanned columns terms rows ids after = met_ids columns terms rows ≡ ids ++ map rowid_of (left_of after (met columns terms rows))

pub scan_begins : (columns : List Column) (terms : List Constraint) (rows : List Row) → IsScanned columns terms rows [] None
scan_begins columns terms rows = ap (map rowid_of) (sym (all_left (met columns terms rows)))

next_is : (columns : List Column) (terms : List Constraint) (rows : List Row) (after : Option ℤ) (rowid : ℤ) → is_rising rows ≡ true → option_map rowid_of (next_met columns terms after rows) ≡ Some rowid →
    map rowid_of (left_of after (met columns terms rows)) ≡ rowid ∷ map rowid_of (left_of (Some rowid) (met columns terms rows))
next_is columns terms rows after rowid rising found =
    let from = mapped_some rowid_of (next_met columns terms after rows) rowid found in
    let next = next_left after (met columns terms rows) from.0 (rising_filter (meets_all columns terms) rows rising) from.1.0 in
    ap (map rowid_of) next ∙ ap (λ (i : ℤ). i ∷ map rowid_of (left_of (Some i) (met columns terms rows))) from.1.1

pub scan_goes_on : (columns : List Column) (terms : List Constraint) (rows : List Row) (ids : List ℤ) (after : Option ℤ) (rowid : ℤ) → is_rising rows ≡ true →
    option_map rowid_of (next_met columns terms after rows) ≡ Some rowid → IsScanned columns terms rows ids after → IsScanned columns terms rows (ids ++ rowid ∷ []) (Some rowid)
scan_goes_on columns terms rows ids after rowid rising found so_far =
    so_far ∙ ap (λ (ys : List ℤ). ids ++ ys) (next_is columns terms rows after rowid rising found) ∙ append_one ids rowid (map rowid_of (left_of (Some rowid) (met columns terms rows)))

pub scan_ends : (columns : List Column) (terms : List Constraint) (rows : List Row) (ids : List ℤ) (after : Option ℤ) → option_map rowid_of (next_met columns terms after rows) ≡ None →
    IsScanned columns terms rows ids after → ids ≡ met_ids columns terms rows
scan_ends columns terms rows ids after none so_far =
    let empty = none_left after (met columns terms rows) (mapped_none rowid_of (next_met columns terms after rows) none) in
    sym (so_far ∙ ap (λ (ys : List Row). ids ++ map rowid_of ys) empty ∙ append_nil ids)

length_map : (xs : List Row) → length (map rowid_of xs) ≡ length xs
length_map [] = refl
length_map (x ∷ xs) = ap suc (length_map xs)

pub scan_shrinks : (columns : List Column) (terms : List Constraint) (rows : List Row) (after : Option ℤ) (rowid : ℤ) → is_rising rows ≡ true →
    option_map rowid_of (next_met columns terms after rows) ≡ Some rowid → length (left_of (Some rowid) (met columns terms rows)) < length (left_of after (met columns terms rows))
scan_shrinks columns terms rows after rowid rising found =
    let one = ap length (next_is columns terms rows after rowid rising found) in
    let a = length_map (left_of after (met columns terms rows)) in
    let b = length_map (left_of (Some rowid) (met columns terms rows)) in
    omega (arith, one, a, b)

-- ---- how many

pub ids_counted : (columns : List Column) (terms : List Constraint) (rows : List Row) (ids : List ℤ) → ids ≡ met_ids columns terms rows → length ids ≡ length (met columns terms rows)
ids_counted columns terms rows ids is = ap length is ∙ length_map (met columns terms rows)

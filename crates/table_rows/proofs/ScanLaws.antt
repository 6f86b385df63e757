-- What a scan finds among the rows of a table is what its source shows.
use Rattle.std.proofs.Common.{◌≡◌, ℕ, zero, suc, ℤ, ◌≤◌, Bool, true, false, cond, List, [], ◌∷◌, length, map, take, refl, sym, ap, ap₂, ◌∙◌, arith, Option, Some, None}
use Rattle.std.specs.Prelude.{int_lt, ◌&&◌, filter, find}
use Rattle.std.specs.List.{list_all}
use Rattle.std.specs.Option.{option_map}
use Rattle.std.specs.Ordering.{int_eq}
use Rattle.std.proofs.lemmas.Bool.{and_parts}
use Rattle.std.proofs.lemmas.Int.{ints}
use Rattle.std.proofs.lemmas.List.{length-map, take_all}
use Rattle.vec_base.specs.declared.value.Value.{Value}
use Rattle.knn_plan.specs.Plans.{IsPlanFor, Planned, planned_target}
use Rattle.row_model.specs.Answer.{Target, answer, at_zero, chosen, counted, items_of, limited, number_in, target_of}
use Rattle.row_model.specs.ColumnNames.{item_places}
use Rattle.row_model.specs.Rows.{is_rising}
use Rattle.row_model.specs.Values.{meets_all, met}
use Rattle.row_model.specs.declared.row.Row.{Row}
use Rattle.row_model.specs.declared.schema.Column.{Column}
use Rattle.row_model.specs.declared.statement.Items.{Items}
use Rattle.row_store.specs.Keyed.{keys_rise}
use Rattle.row_store.specs.StoredRows.{is_above}
use Rattle.shadow_records.specs.PlacedTables.{PlacedRow, PlacedTable, plain, plain_rows, row_of}
use Rattle.snapshot_cursor.specs.Scanned.{next_row, values_of}
use Rattle.table_query.proofs.AnswerLaws.{counted_met}
use Rattle.table_query.proofs.FindLaws.{found_by_key, found_passes, mapped_none, mapped_some}
use Rattle.table_query.specs.Items.{items_at}
use Rattle.table_query.specs.Met.{next_met, rowid_of}
use Rattle.table_rows.specs.ScanRows.{scan_rows}

-- the row with other values
abbrev pub shows : (Row → List Value) → Row → Row
shows values row = record { rowid = row.rowid; values = values row }

-- the items of a row of a table
abbrev pub items_in : List Column → Items → Row → List Value
items_in columns items row = items_of (item_places columns items) (at_zero row)

-- ---- the next row

next_of : (values : Row → List Value) (after : Option ℤ) (rows : List Row) →
    option_map rowid_of (next_row after (map (shows values) rows)) ≡ option_map rowid_of (find (λ (row : Row). is_above after row.rowid) rows)
next_of values after [] = refl
next_of values None (x ∷ xs) = refl
next_of values (Some a) (x ∷ xs) =
    let rest = next_of values (Some a) xs in
    elim (int_lt a x.rowid) as (λ b. option_map rowid_of (cond b (Some (shows values x)) (next_row (Some a) (map (shows values) xs)))
    ≡ option_map rowid_of (cond b (Some x) (find (λ (row : Row). int_lt a row.rowid) xs)))
    [ true ↦ refl | false ↦ rest ]

pub next_shown : (plan : Planned) (after : Option ℤ) (table : PlacedTable) →
    option_map rowid_of (next_met table.schema.columns plan.select.where_terms after (plain_rows table.rows)) ≡ option_map rowid_of (next_row after (scan_rows plan table))
next_shown plan after table =
    sym (next_of (items_in table.schema.columns plan.select.items) after (met table.schema.columns plan.select.where_terms (plain_rows table.rows)))

-- ---- rising rows

all_shown : (values : Row → List Value) (i : ℤ) (rows : List Row) → list_all (λ (row : Row). int_lt i row.rowid) (map (shows values) rows) ≡ list_all (λ (row : Row). int_lt i row.rowid) rows
all_shown values i [] = refl
all_shown values i (x ∷ xs) = ap (λ b. int_lt i x.rowid && b) (all_shown values i xs)

rising_of : (values : Row → List Value) (rows : List Row) → is_rising (map (shows values) rows) ≡ is_rising rows
rising_of values [] = refl
rising_of values (x ∷ xs) = ap₂ (λ a b. a && b) (all_shown values x.rowid xs) (rising_of values xs)

all_kept : (test holds : Row → Bool) (rows : List Row) → list_all holds rows ≡ true → list_all holds (filter test rows) ≡ true
all_kept test holds [] all = refl
all_kept test holds (x ∷ xs) all =
    let p = and_parts (holds x) (list_all holds xs) all in
    let rest = all_kept test holds xs p.1 in
    elim (test x) as (λ b. list_all holds (cond b (x ∷ filter test xs) (filter test xs)) ≡ true)
    [ true ↦ ap₂ (λ a b. a && b) p.0 rest | false ↦ rest ]

rising_kept : (test : Row → Bool) (rows : List Row) → is_rising rows ≡ true → is_rising (filter test rows) ≡ true
rising_kept test [] rising = refl
rising_kept test (x ∷ xs) rising =
    let p = and_parts (list_all (λ (row : Row). int_lt x.rowid row.rowid) xs) (is_rising xs) rising in
    let rest = rising_kept test xs p.1 in
    elim (test x) as (λ b. is_rising (cond b (x ∷ filter test xs) (filter test xs)) ≡ true)
    [ true ↦ ap₂ (λ a b. a && b) (all_kept test (λ (row : Row). int_lt x.rowid row.rowid) xs p.0) rest | false ↦ rest ]

pub rising_shown : (plan : Planned) (table : PlacedTable) → is_rising (plain_rows table.rows) ≡ true → is_rising (scan_rows plan table) ≡ true
rising_shown plan table rising =
    let columns = table.schema.columns in
    rising_of (items_in columns plan.select.items) (met columns plan.select.where_terms (plain_rows table.rows))
    ∙ rising_kept (meets_all columns plan.select.where_terms) (plain_rows table.rows) rising

-- ---- the row of a rowid

found_of : (values : Row → List Value) (rowid : ℤ) (rows : List Row) → values_of rowid (map (shows values) rows) ≡ option_map values (find (λ (row : Row). int_eq row.rowid rowid) rows)
found_of values rowid [] = refl
found_of values rowid (x ∷ xs) =
    let rest = found_of values rowid xs in
    elim (int_eq x.rowid rowid) as (λ b. option_map (λ (row : Row). row.values) (cond b (Some (shows values x)) (find (λ (row : Row). int_eq row.rowid rowid) (map (shows values) xs)))
    ≡ option_map values (cond b (Some x) (find (λ (row : Row). int_eq row.rowid rowid) xs)))
    [ true ↦ refl | false ↦ rest ]

-- what is found among those that pass passes both tests
found_both : (test such : Row → Bool) (rows : List Row) → find such (filter test rows) ≡ find (λ (row : Row). test row && such row) rows
found_both test such [] = refl
found_both test such (x ∷ xs) =
    let rest = found_both test such xs in
    elim (test x) as (λ b. find such (cond b (x ∷ filter test xs) (filter test xs)) ≡ cond (b && such x) (Some x) (find (λ (row : Row). test row && such row) xs))
    [ true ↦ ap (cond (such x) (Some x)) rest | false ↦ rest ]

rows_keyed : (rows : List Row) → keys_rise rowid_of rows ≡ is_rising rows
rows_keyed [] = refl
rows_keyed (x ∷ xs) = ap (λ b. list_all (λ (row : Row). int_lt x.rowid row.rowid) xs && b) (rows_keyed xs)

same_rowid : (a b : ℤ) → int_eq a b ≡ true → a ≡ b
same_rowid a b e = grind (arith, ints)

placed_of : (rowid : ℤ) (rows : List PlacedRow) → find (λ (row : Row). int_eq row.rowid rowid) (plain_rows rows) ≡ option_map (λ (p : PlacedRow). p.row) (row_of rows rowid)
placed_of rowid [] = refl
placed_of rowid (x ∷ xs) =
    let rest = placed_of rowid xs in
    elim (int_eq x.row.rowid rowid) as (λ b. cond b (Some x.row) (find (λ (row : Row). int_eq row.rowid rowid) (plain_rows xs)) ≡ option_map (λ (p : PlacedRow). p.row) (cond b (Some x) (row_of xs rowid)))
    [ true ↦ refl | false ↦ rest ]

-- a row that is shown is the row of its rowid
shown_row : (values : Row → List Value) (test : Row → Bool) (rowid : ℤ) (rows : List PlacedRow) (own : List Value) → is_rising (plain_rows rows) ≡ true →
    values_of rowid (map (shows values) (filter test (plain_rows rows))) ≡ Some own → (row : Row) × ((option_map (λ (p : PlacedRow). p.row) (row_of rows rowid) ≡ Some row) × (values row ≡ own))
shown_row values test rowid rows own rising is =
    let such : Row → Bool = λ (row : Row). int_eq row.rowid rowid in
    let plain = plain_rows rows in
    let from = mapped_some values (find such (filter test plain)) own (sym (found_of values rowid (filter test plain)) ∙ is) in
    let row = from.0 in
    let found : find (λ (row : Row). test row && such row) plain ≡ Some row = sym (found_both test such plain) ∙ from.1.0 in
    let both = and_parts (test row) (such row) (found_passes (λ (row : Row). test row && such row) plain row found) in
    let by_key = found_by_key rowid_of (λ (row : Row). test row && such row) plain row (rows_keyed plain ∙ rising) found in
    let there : find such plain ≡ Some row = ap (λ i. find (λ (row : Row). int_eq row.rowid i) plain) (sym (same_rowid row.rowid rowid both.1)) ∙ by_key in
    (row, (sym (placed_of rowid rows) ∙ there, from.1.1))

pub own_items : (plan : Planned) (table : PlacedTable) (rowid : ℤ) (values own : List Value) → is_rising (plain_rows table.rows) ≡ true →
    option_map (items_at table.schema.columns plan.select.items 0) (row_of table.rows rowid) ≡ Some values → values_of rowid (scan_rows plan table) ≡ Some own → values ≡ own
own_items plan table rowid values own rising made is =
    let columns = table.schema.columns in
    let shown = shown_row (items_in columns plan.select.items) (meets_all columns plan.select.where_terms) rowid table.rows own rising is in
    same (row_of table.rows rowid) made shown.0 shown.1.0 shown.1.1 where
      same : (found : Option PlacedRow) → option_map (items_at table.schema.columns plan.select.items 0) found ≡ Some values → (row : Row) → option_map (λ (p : PlacedRow). p.row) found ≡ Some row →
          items_in table.schema.columns plan.select.items row ≡ own → values ≡ own
      same None made row there given = absurd cc
      same (Some p) made row there given =
          let one : p.row ≡ row = cc in
          let made_is : items_in table.schema.columns plan.select.items p.row ≡ values = cc in
          sym made_is ∙ ap (items_in table.schema.columns plan.select.items) one ∙ given

pub nowhere : (plan : Planned) (table : PlacedTable) (rowid : ℤ) (own : List Value) → is_rising (plain_rows table.rows) ≡ true → row_of table.rows rowid ≡ None →
    values_of rowid (scan_rows plan table) ≡ Some own → ⊥
nowhere plan table rowid own rising none is =
    let columns = table.schema.columns in
    let shown = shown_row (items_in columns plan.select.items) (meets_all columns plan.select.where_terms) rowid table.rows own rising is in
    let there : ◌≡◌ {A = Option Row} None (Some shown.0) = ap (option_map (λ (p : PlacedRow). p.row)) (sym none) ∙ shown.1.0 in
    absurd cc

-- ---- the answer

given_of : (values : Row → List Value) (rows : List Row) → map (λ (row : Row). row.values) (map (shows values) rows) ≡ map values rows
given_of values [] = refl
given_of values (x ∷ xs) = ap (λ l. values x ∷ l) (given_of values xs)

take_of : {A B : Type 0} (f : A → B) (n : ℕ) (xs : List A) → take n (map f xs) ≡ map f (take n xs)
take_of f zero xs = refl
take_of f (suc n) [] = refl
take_of f (suc n) (x ∷ xs) = ap (λ l. f x ∷ l) (take_of f n xs)

two_of : (columns : List Column) (items : Items) (rows : List Row) → map (items_of (item_places columns items)) (map at_zero rows) ≡ map (items_in columns items) rows
two_of columns items [] = refl
two_of columns items (x ∷ xs) = ap (λ l. items_in columns items x ∷ l) (two_of columns items xs)

kept_fewer : {A : Type 0} (test : A → Bool) (xs : List A) → length (filter test xs) ≤ length xs
kept_fewer test [] = omega arith
kept_fewer {A} test (x ∷ xs) =
    let rest = kept_fewer test xs in
    elim (test x) as (λ b. length (cond b (x ∷ filter test xs) (filter test xs)) ≤ suc (length xs))
    [ true ↦ omega (arith, rest) | false ↦ omega (arith, rest) ]

-- rows that are few are taken whole
all_taken : {A B : Type 0} (test : A → Bool) (f : A → B) (xs : List A) (n : ℕ) → length xs ≡ n → take n (map f (filter test xs)) ≡ map f (filter test xs)
all_taken test f xs n many = take_all n (map f (filter test xs)) (omega (arith, many, kept_fewer test xs, length-map (filter test xs) f))

-- the answer is the items of the rows that meet all terms, the first LIMIT of them
pub scan_answer : (plan : Planned) (table : PlacedTable) → IsPlanFor table.schema.columns plan → plan.target ≡ None →
    answer (plain table) plan.select ≡ map (items_in table.schema.columns plan.select.items) (limited plan.select.limit (met table.schema.columns plan.select.where_terms (plain_rows table.rows)))
scan_answer plan table is none =
    let columns = table.schema.columns in
    let select = plan.select in
    let rows = plain_rows table.rows in
    let target : target_of columns select.where_terms ≡ None = mapped_none (planned_target columns) (target_of columns select.where_terms) (sym is.target ∙ none) in
    ap (λ (t : Option Target). map (items_of (item_places columns select.items)) (chosen t columns select (counted columns select.where_terms t rows))) target
    ∙ ap (λ (met : List Row). map (items_of (item_places columns select.items)) (map at_zero (limited select.limit met))) (counted_met columns plan is none rows)
    ∙ two_of columns select.items (limited select.limit (met columns select.where_terms rows))

values_shown : (plan : Planned) (table : PlacedTable) → map (λ (row : Row). row.values) (scan_rows plan table) ≡ map (items_in table.schema.columns plan.select.items) (met table.schema.columns plan.select.where_terms (plain_rows table.rows))
values_shown plan table = given_of (items_in table.schema.columns plan.select.items) (met table.schema.columns plan.select.where_terms (plain_rows table.rows))

-- with a LIMIT the first rows of the scan are the answer
pub first_answered : (plan : Planned) (table : PlacedTable) (limit : ℕ) → IsPlanFor table.schema.columns plan → plan.target ≡ None → option_map number_in plan.select.limit ≡ Some limit →
    take limit (map (λ (row : Row). row.values) (scan_rows plan table)) ≡ answer (plain table) plan.select
first_answered plan table limit is none limited_is =
    let columns = table.schema.columns in
    let rows = met columns plan.select.where_terms (plain_rows table.rows) in
    let items = items_in columns plan.select.items in
    ap (take limit) (values_shown plan table) ∙ take_of items limit rows ∙ ap (map items) (by_limit plan.select.limit limited_is rows) ∙ sym (scan_answer plan table is none) where
      by_limit : (given : Option Value) → option_map number_in given ≡ Some limit → (rows : List Row) → take limit rows ≡ limited given rows
      by_limit None e rows = absurd cc
      by_limit (Some value) e rows = let same : number_in value ≡ limit = cc in ap (λ n. take n rows) (sym same)

-- without a LIMIT all of them are
pub all_answered : (plan : Planned) (table : PlacedTable) → IsPlanFor table.schema.columns plan → plan.target ≡ None → option_map number_in plan.select.limit ≡ None →
    take (length table.rows) (map (λ (row : Row). row.values) (scan_rows plan table)) ≡ answer (plain table) plan.select
all_answered plan table is none unlimited =
    let columns = table.schema.columns in
    let rows = plain_rows table.rows in
    let items = items_in columns plan.select.items in
    let whole = all_taken (meets_all columns plan.select.where_terms) items rows (length table.rows) (length-map table.rows (λ (p : PlacedRow). p.row)) in
    ap (take (length table.rows)) (values_shown plan table) ∙ whole ∙ ap (map items) (by_limit plan.select.limit unlimited (met columns plan.select.where_terms rows)) ∙ sym (scan_answer plan table is none) where
      by_limit : (given : Option Value) → option_map number_in given ≡ None → (rows : List Row) → rows ≡ limited given rows
      by_limit None e rows = refl
      by_limit (Some value) e rows = absurd cc

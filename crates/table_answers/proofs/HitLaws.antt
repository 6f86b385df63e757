-- The rows of the hits of a search are there, and their items are the answer.
use Rattle.std.proofs.Common.{◌≡◌, ℕ, zero, suc, ◌+◌, ◌*◌, ◌<◌, ◌≤◌, ℤ, Bool, true, false, List, [], ◌∷◌, length, map, get_or, refl, sym, ap, ap₂, ◌∙◌, subst, arith, add-mul, one-mul, Option, Some, None}
use Rattle.std.specs.Prelude.{int_lt, ◌&&◌, filter, is_some, nat_lt}
use Rattle.std.specs.List.{AllByRecursion, list_all}
use Rattle.std.specs.Option.{option_map}
use Rattle.std.specs.Ordering.{int_eq}
use Rattle.std.proofs.lemmas.Bool.{and_parts, cond-true, cond-false}
use Rattle.std.proofs.lemmas.Int.{ints}
use Rattle.std.proofs.lemmas.List.{length-map}
use Rattle.vec_base.specs.Ranks.{all_placed, first_ranked, placed, rank}
use Rattle.vec_base.specs.declared.value.Value.{Value}
use Rattle.vec_base.proofs.RankLaws.{each-filter, each-placed}
use Rattle.knn_plan.specs.Plans.{IsPlanFor, Planned, planned_target}
use Rattle.nearest_query.specs.Searches.{hit_of, nearest_hits}
use Rattle.row_model.specs.Answer.{Near, Target, answer, chosen, count_wanted, counted, counts, is_before, items_of, near_of, near_to, target_of}
use Rattle.row_model.specs.ColumnNames.{item_places}
use Rattle.row_model.specs.Rows.{is_rising}
use Rattle.row_model.specs.declared.row.Row.{Row}
use Rattle.row_model.specs.declared.schema.Column.{Column}
use Rattle.row_model.specs.declared.statement.Items.{Items}
use Rattle.row_model.specs.declared.statement.Select.{Select}
use Rattle.shadow_records.specs.PlacedTables.{PlacedRow, PlacedTable, plain, plain_rows, row_of}
use Rattle.table_answers.specs.inner.HitRows.{hit_items, is_there, or_none}
use Rattle.table_query.specs.Items.{items_at, near_at}
use Rattle.topk_merge.specs.declared.hit.Hit.{Hit}

-- ---- rows of a table are found by their rowids

-- the row is found by its rowid
record IsFound (rows : List PlacedRow) (row : Row) : Type 0 where
  placed : PlacedRow
  there : row_of rows row.rowid ≡ Some placed
  same : placed.row ≡ row

not_equal : (a b : ℤ) → int_lt a b ≡ true → int_eq a b ≡ false
not_equal a b h = grind (arith, ints)

own : (a : ℤ) → int_eq a a ≡ true
own a = grind (arith, ints)

found_behind : (x : PlacedRow) (rows : List PlacedRow) (ys : List Row) → list_all (λ (row : Row). int_lt x.row.rowid row.rowid) ys ≡ true → AllByRecursion (IsFound rows) ys → AllByRecursion (IsFound (x ∷ rows)) ys
found_behind x rows [] above found = tt
found_behind x rows (y ∷ ys) above found = (
  record {
    placed = found.0.placed;
    there = cond-false _ _ _ (not_equal x.row.rowid y.rowid (and_parts _ _ above).0) ∙ found.0.there;
    same = found.0.same;
  },
  found_behind x rows ys (and_parts _ _ above).1 found.1,
)

found_rows : (rows : List PlacedRow) → is_rising (plain_rows rows) ≡ true → AllByRecursion (IsFound rows) (plain_rows rows)
found_rows [] rising = tt
found_rows (x ∷ xs) rising = (
  record { placed = x; there = cond-true _ _ _ (own x.row.rowid); same = refl },
  found_behind x xs (plain_rows xs) (and_parts _ _ rising).0 (found_rows xs (and_parts _ _ rising).1),
)

-- ---- what holds of each row holds of the first in an order

each_near : (target : Target) (P : Row → Type 0) (rows : List Row) → AllByRecursion P rows → AllByRecursion (λ (near : Near). P near.row) (map (near_to target) rows)
each_near target P [] each = tt
each_near target P (r ∷ rs) each = (each.0, each_near target P rs each.1)

each_all_placed : {A : Type 0} (before : A → A → Bool) (P : A → Type 0) (ordered xs : List A) → AllByRecursion P ordered → AllByRecursion P xs → AllByRecursion P (all_placed before ordered xs)
each_all_placed before P ordered [] each more = each
each_all_placed before P ordered (x ∷ xs) each more = each_all_placed before P (placed before x ordered) xs (each-placed before P x ordered more.0 each) more.1

each_first_ranked : {A : Type 0} (before : A → A → Bool) (P : A → Type 0) (k : ℕ) (xs : List A) → AllByRecursion P xs → AllByRecursion P (first_ranked before k xs)
each_first_ranked {A = A} before P k xs each =
    let test : A → Bool = λ x. nat_lt (rank before xs x) k in
    each_all_placed before P [] (filter test xs) tt (each-filter test P xs each)

-- each of the nearest rows is found
abbrev AreFound : List PlacedRow → List Near → Type 0
AreFound rows nears = AllByRecursion (λ (near : Near). IsFound rows near.row) nears

chosen_found : (target : Target) (columns : List Column) (select : Select) (rows : List PlacedRow) → is_rising (plain_rows rows) ≡ true →
    AreFound rows (chosen (Some target) columns select (counted columns select.where_terms (Some target) (plain_rows rows)))
chosen_found target columns select rows rising =
    let test : Row → Bool = λ row. counts columns select.where_terms (near_of (Some target) row) in
    each_first_ranked is_before (λ (near : Near). IsFound rows near.row) (count_wanted columns select.where_terms select.limit) (map (near_to target) (filter test (plain_rows rows)))
    (each_near target (IsFound rows) (filter test (plain_rows rows)) (each-filter test (IsFound rows) (plain_rows rows) (found_rows rows rising)))

-- ---- the rows of hits

there_again : (table : PlacedTable) (nears : List Near) → AreFound table.rows nears → list_all (is_there table) (map hit_of nears) ≡ true
there_again table [] found = refl
there_again table (near ∷ nears) found = ap₂ (λ a b. a && b) (ap is_some found.0.there) (there_again table nears found.1)

items_again : (table : PlacedTable) (items : Items) (nears : List Near) → AreFound table.rows nears →
    map (hit_items table items) (map hit_of nears) ≡ map (items_of (item_places table.schema.columns items)) nears
items_again table items [] found = refl
items_again table items (near ∷ nears) found =
    let columns = table.schema.columns in
    let at : Row → List Value = λ row. items_of (item_places columns items) (near_at near.distance row) in
    ap₂ (λ (x : List Value) (xs : List (List Value)). x ∷ xs) (ap (λ o. or_none (option_map (items_at columns items near.distance) o)) found.0.there ∙ ap at found.0.same) (items_again table items nears found.1)

-- by the target of the terms
of_target : (plan : Planned) (table : PlacedTable) → IsPlanFor table.schema.columns plan → is_some plan.target ≡ true → (target : Target) × (target_of table.schema.columns plan.select.where_terms ≡ Some target)
of_target plan table is nearest = by_target (target_of table.schema.columns plan.select.where_terms) refl where
  by_target : (o : Option Target) → target_of table.schema.columns plan.select.where_terms ≡ o → (target : Target) × (target_of table.schema.columns plan.select.where_terms ≡ Some target)
  by_target None e = let gone = ap is_some (is.target ∙ ap (option_map (planned_target table.schema.columns)) e) in absurd cc
  by_target (Some target) e = (target, e)

abbrev nears_by : Option Target → PlacedTable → Select → List Near
nears_by target table select = chosen target table.schema.columns select (counted table.schema.columns select.where_terms target (plain_rows table.rows))

nears_found : (table : PlacedTable) (plan : Planned) → is_rising (plain_rows table.rows) ≡ true → IsPlanFor table.schema.columns plan → is_some plan.target ≡ true →
    AreFound table.rows (nears_by (target_of table.schema.columns plan.select.where_terms) table plan.select)
nears_found table plan rising is nearest =
    let target = of_target plan table is nearest in
    subst (λ (t : Option Target). AreFound table.rows (nears_by t table plan.select)) (sym target.1) (chosen_found target.0 table.schema.columns plan.select table.rows rising)

-- the rows of the hits are there
pub hits_there : (table : PlacedTable) (plan : Planned) → is_rising (plain_rows table.rows) ≡ true → IsPlanFor table.schema.columns plan → is_some plan.target ≡ true →
    list_all (is_there table) (nearest_hits table plan.select) ≡ true
hits_there table plan rising is nearest =
    there_again table (nears_by (target_of table.schema.columns plan.select.where_terms) table plan.select) (nears_found table plan rising is nearest)

-- and their items are the answer
pub hits_items : (table : PlacedTable) (plan : Planned) → is_rising (plain_rows table.rows) ≡ true → IsPlanFor table.schema.columns plan → is_some plan.target ≡ true →
    map (hit_items table plan.select.items) (nearest_hits table plan.select) ≡ answer (plain table) plan.select
hits_items table plan rising is nearest =
    items_again table plan.select.items (nears_by (target_of table.schema.columns plan.select.where_terms) table plan.select) (nears_found table plan rising is nearest)

pub hits_many : (table : PlacedTable) (select : Select) → length (nearest_hits table select) ≡ length (answer (plain table) select)
hits_many table select =
    let nears = nears_by (target_of table.schema.columns select.where_terms) table select in
    length-map nears hit_of ∙ sym (length-map nears (items_of (item_places table.schema.columns select.items)))

-- ---- reads

-- those of one row more
pub reads_more : (start reads next each i : ℕ) → reads ≤ start + i * each → next ≤ reads + each → next ≤ start + (i + 1) * each
reads_more start reads next each i before row =
    let step : (i + 1) * each ≡ i * each + each = add-mul i 1 each ∙ ap (λ n. i * each + n) (one-mul each) in
    omega (arith, before, row, step)

-- each of them is there
pub there_at : (table : PlacedTable) (hits : List Hit) (i : ℕ) (d : Hit) → i < length hits → list_all (is_there table) hits ≡ true → is_there table (get_or hits i d) ≡ true
there_at table [] i d within all = absurd (omega (arith, within))
there_at table (hit ∷ hits) zero d within all = (and_parts _ _ all).0
there_at table (hit ∷ hits) (suc i) d within all = there_at table hits i d (omega (arith, within)) (and_parts _ _ all).1

-- What a search over chunks finds is what a SELECT with a MATCH answers.
use Rattle.std.proofs.Common.{◌≡◌, ℕ, zero, suc, ◌<◌, Bool, true, false, cond, List, [], ◌∷◌, ◌++◌, length, refl, sym, ap, ap₂, ◌∙◌, arith, Some, None, Option, inl, inr, take}
use Rattle.std.specs.Prelude.{◌&&◌, if◌then◌else◌, flat_map, map, filter, int_lt}
use Rattle.std.specs.List.{list_all, AllByRecursion}
use Rattle.std.proofs.lemmas.Bool.{and_parts, cases_Bool}
use Rattle.std.proofs.lemmas.List.{append-nil, length-map}
use Rattle.std.proofs.lemmas.List.Concat.{flat_map-append}
use Rattle.vec_base.specs.Ranks.{all_placed, first_ranked, placed as put}
use Rattle.vec_base.specs.inner.Offers.{offered}
use Rattle.vec_base.specs.inner.StrictOrders.{IsInOrder}
use Rattle.vec_base.proofs.RankLaws.{first_ranked-map}
use Rattle.row_model.specs.Answer.{Target, near_to, chosen, counted, counts, is_before as near_before}
use Rattle.row_model.specs.Rows.{is_rising}
use Rattle.row_model.specs.Schemas.{is_metadata, is_partition}
use Rattle.row_model.specs.declared.row.Row.{Row}
use Rattle.row_model.specs.declared.schema.Column.{Column}
use Rattle.row_model.specs.declared.statement.Constraint.{Constraint}
use Rattle.knn_plan.specs.Levels.{meets_on, meets_rest}
use Rattle.knn_plan.specs.Plans.{Planned, PlannedTarget, planned_target}
use Rattle.shadow_records.specs.PlacedTables.{PlacedRow, PlacedTable, IsPlaced, is_place, plain_rows, row_at}
use Rattle.topk_merge.specs.declared.hit.Hit.{Hit}
use Rattle.topk_merge.specs.Hits.{is_before}
use Rattle.topk_merge.proofs.HitLaws.{hit_order, same_hit, offered_hits, rising_ranked}
use Rattle.topk_merge.proofs.OrderLaws.{all_placed-append, offered-all, placed-all}
use Rattle.nearest_query.specs.Gathered.{found, gathered}
use Rattle.nearest_query.specs.Searches.{above_chunks, hit_of, is_read, is_wanted, nearest_hits, one_if_wanted, read_rows, wanted_below, wanted_chunks}
use Rattle.nearest_query.specs.inner.Scanning.{IsReady, hits_in, hits_over, is_read_row, is_within, row_hit}
use Rattle.nearest_query.proofs.ChunkLaws.{above-is, place_parts, wanted-row}
use Rattle.nearest_query.proofs.Gathering.{IsShuffle, filter-gathered, gathered-shuffle, length-shuffle, up_to-none}
use Rattle.nearest_query.proofs.PlaceLaws.{are_free}
use Rattle.nearest_query.proofs.ReadLaws.{counts_read, read_by_levels}
use Rattle.nearest_query.proofs.VectorLaws.{target_there}

-- ---- chunks that are not wanted have no hits

first_false : (a b c : Bool) → a ≡ false → ((a && b) && c) ≡ false
first_false true b c none = absurd cc
first_false false b c none = refl

unwanted_at : (table : PlacedTable) (terms : List Constraint) (f : PlacedRow → Hit) (c s : ℕ) (o : Option PlacedRow) → row_at table.rows c s ≡ o → IsPlaced table → is_wanted table terms c ≡ false → found (is_read_row table terms) f o ≡ []
unwanted_at table terms f c s None is placed fails = refl
unwanted_at table terms f c s (Some p) is placed fails =
    let columns = table.schema.columns in
    let none = wanted-row table terms c placed p s is ∙ fails in
    let all : is_read columns terms p.row ≡ false =
    read_by_levels columns p.row terms ∙ first_false (list_all (meets_on is_partition columns p.row) terms) (list_all (meets_on is_metadata columns p.row) terms) (list_all (meets_rest columns p.row) terms) none in
    ap (λ b. if b then f p ∷ [] else []) all

unwanted : (table : PlacedTable) (terms : List Constraint) (target : PlannedTarget) (c : ℕ) → IsPlaced table → is_wanted table terms c ≡ false → hits_in table terms target c ≡ []
unwanted table terms target c placed fails =
    up_to-none (λ s. found (is_read_row table terms) (row_hit target) (row_at table.rows c s)) table.schema.chunk_size
    (λ s less. unwanted_at table terms (row_hit target) c s (row_at table.rows c s) refl placed fails)

-- so the hits of the wanted chunks are those of all
one_over : (table : PlacedTable) (terms : List Constraint) (target : PlannedTarget) (c : ℕ) → IsPlaced table → (b : Bool) → is_wanted table terms c ≡ b → flat_map (hits_in table terms target) (if b then c ∷ [] else []) ≡ hits_in table terms target c
one_over table terms target c placed true is = append-nil (hits_in table terms target c)
one_over table terms target c placed false is = sym (unwanted table terms target c placed is)

over_below : (table : PlacedTable) (terms : List Constraint) (target : PlannedTarget) (n : ℕ) → IsPlaced table →
    hits_over table terms target (wanted_below table terms n) ≡ gathered (is_read_row table terms) (row_hit target) table.rows table.schema.chunk_size n
over_below table terms target zero placed = refl
over_below table terms target (suc n) placed =
    flat_map-append (hits_in table terms target) (wanted_below table terms n) (one_if_wanted table terms n)
    ∙ ap₂ (λ xs ys. xs ++ ys) (over_below table terms target n placed) (one_over table terms target n placed (is_wanted table terms n) refl)

-- ---- the rows that are read, in another order

in_range : (size : ℕ) (rows : List PlacedRow) → list_all (is_place size) rows ≡ true → AllByRecursion (λ p. (p.chunk < above_chunks) × (p.slot < size)) rows
in_range size [] all = tt
in_range size (p ∷ rows) all =
    let parts = and_parts (is_place size p) (list_all (is_place size) rows) all in
    let here = place_parts size p parts.0 in
    let is = above-is in
    let less = here.1.0 in
    ((omega (arith, is, less), here.1.1), in_range size rows parts.1)

shuffled : (table : PlacedTable) (test : PlacedRow → Bool) (f : PlacedRow → Hit) → IsPlaced table →
    IsShuffle (map f (filter test table.rows)) (gathered test f table.rows table.schema.chunk_size above_chunks)
shuffled table test f placed =
    gathered-shuffle test f table.rows table.schema.chunk_size above_chunks (are_free table.rows placed.apart) (in_range table.schema.chunk_size table.rows placed.places)

-- what offers leave does not depend on the order of what is offered
all_shuffled : (o xs ys : List Hit) → IsShuffle xs ys → all_placed is_before o ys ≡ all_placed is_before o xs
all_shuffled o [] ys is = ap (all_placed is_before o) is
all_shuffled o (x ∷ xs) ys is =
    let front = is.1.0 in
    let back = is.1.1 in
    ap (all_placed is_before o) is.1.3
    ∙ all_placed-append is_before o front (x ∷ back)
    ∙ placed-all is_before hit_order same_hit x (all_placed is_before o front) back
    ∙ ap (put is_before x) (sym (all_placed-append is_before o front back))
    ∙ sym (placed-all is_before hit_order same_hit x o (front ++ back))
    ∙ ap (all_placed is_before (put is_before x o)) (sym is.1.2)
    ∙ all_shuffled (put is_before x o) xs is.0 is.2

offered_shuffled : (k : ℕ) (xs ys : List Hit) → IsShuffle xs ys → offered is_before k [] ys ≡ offered is_before k [] xs
offered_shuffled k xs ys is = offered-all is_before k ys ∙ ap (take k) (all_shuffled [] xs ys is) ∙ sym (offered-all is_before k xs)

-- ---- rows as hits

filter_map-row : (test : Row → Bool) (rows : List PlacedRow) → filter test (plain_rows rows) ≡ plain_rows (filter (λ p. test p.row) rows)
filter_map-row test [] = refl
filter_map-row test (p ∷ rows) =
    elim (cases_Bool (test p.row)) [
      | inl passes ↦ rw passes (ap (λ rs. p.row ∷ rs) (filter_map-row test rows))
      | inr fails ↦ rw fails (filter_map-row test rows)
    ]

-- where two tests and two images of each row are the same
same_filter : {A B : Type 0} (f g : A → Bool) (h : A → B) (xs : List A) → ((x : A) → f x ≡ g x) → map h (filter f xs) ≡ map h (filter g xs)
same_filter {A} f g h [] same = refl
same_filter {A} {B} f g h (x ∷ xs) same = by_test (g x) (same x) (same_filter f g h xs same) where
  by_test : (b : Bool) → f x ≡ b → map h (filter f xs) ≡ map h (filter g xs) → map h (cond (f x) (x ∷ filter f xs) (filter f xs)) ≡ map h (cond b (x ∷ filter g xs) (filter g xs))
  by_test true e rest = ap (λ c. map h (cond c (x ∷ filter f xs) (filter f xs))) e ∙ ap (λ l. h x ∷ l) rest
  by_test false e rest = ap (λ c. map h (cond c (x ∷ filter f xs) (filter f xs))) e ∙ rest

hits_plain : (t : Target) (rows : List PlacedRow) (columns : List Column) → map (row_hit (planned_target columns t)) rows ≡ map hit_of (map (near_to t) (plain_rows rows))
hits_plain t [] columns = refl
hits_plain t (p ∷ rows) columns = ap (λ l. hit_of (near_to t p.row) ∷ l) (hits_plain t rows columns)

rising_behind : (t : Target) (test : Row → Bool) (rowid : _) (rows : List Row) → list_all (λ later. int_lt rowid later.rowid) rows ≡ true →
    AllByRecursion (λ (hit : Hit). int_lt rowid hit.rowid ≡ true) (map hit_of (map (near_to t) (filter test rows)))
rising_behind t test rowid [] h = tt
rising_behind t test rowid (r ∷ rs) h =
    elim (test r) as (λ b. AllByRecursion (λ (hit : Hit). int_lt rowid hit.rowid ≡ true) (map hit_of (map (near_to t) (cond b (r ∷ filter test rs) (filter test rs))))) [
      | true ↦ ((and_parts _ _ h).0, rising_behind t test rowid rs (and_parts _ _ h).1)
      | false ↦ rising_behind t test rowid rs (and_parts _ _ h).1
    ]

rising_hits : (t : Target) (test : Row → Bool) (rows : List Row) → is_rising rows ≡ true → IsInOrder (λ (a b : Hit). int_lt a.rowid b.rowid) (map hit_of (map (near_to t) (filter test rows)))
rising_hits t test [] h = tt
rising_hits t test (r ∷ rs) h =
    elim (test r) as (λ b. IsInOrder (λ (a b : Hit). int_lt a.rowid b.rowid) (map hit_of (map (near_to t) (cond b (r ∷ filter test rs) (filter test rs))))) [
      | true ↦ (rising_behind t test r.rowid rs (and_parts _ _ h).0, rising_hits t test rs (and_parts _ _ h).1)
      | false ↦ rising_hits t test rs (and_parts _ _ h).1
    ]

-- ---- the theorem

found_hits : (table : PlacedTable) (plan : Planned) (t : Target) (k : ℕ) → IsPlaced table →
    offered is_before k [] (filter (is_within table.schema.columns plan.select.where_terms) (hits_over table plan.select.where_terms (planned_target table.schema.columns t) (wanted_chunks table plan.select.where_terms)))
    ≡ map hit_of (first_ranked near_before k (map (near_to t) (counted table.schema.columns plan.select.where_terms (Some t) (plain_rows table.rows))))
found_hits table plan t k placed =
    let columns = table.schema.columns in
    let terms = plan.select.where_terms in
    let target = planned_target columns t in
    let size = table.schema.chunk_size in
    let test : PlacedRow → Bool = λ p. is_read_row table terms p && is_within columns terms (row_hit target p) in
    let counts_row : Row → Bool = λ row. counts columns terms (near_to t row) in
    let nears = map (near_to t) (filter counts_row (plain_rows table.rows)) in
    ap (λ hits. offered is_before k [] (filter (is_within columns terms) hits)) (over_below table terms target above_chunks placed)
    ∙ ap (offered is_before k []) (filter-gathered (is_read_row table terms) (is_within columns terms) (row_hit target) table.rows size above_chunks)
    ∙ offered_shuffled k (map (row_hit target) (filter test table.rows)) (gathered test (row_hit target) table.rows size above_chunks) (shuffled table test (row_hit target) placed)
    ∙ ap (offered is_before k []) (same_filter test (λ p. counts_row p.row) (row_hit target) table.rows (λ p. sym (counts_read columns terms (near_to t p.row)))
    ∙ hits_plain t (filter (λ p. counts_row p.row) table.rows) columns
    ∙ ap (λ rows. map hit_of (map (near_to t) rows)) (sym (filter_map-row counts_row table.rows)))
    ∙ offered_hits k (map hit_of nears) (rising_ranked (map hit_of nears) (rising_hits t counts_row (plain_rows table.rows) placed.valid.rising))
    ∙ first_ranked-map hit_of is_before k nears

-- What is left of the offers is the answer.
pub nearest_found : (table : PlacedTable) (plan : Planned) (target : PlannedTarget) (k : ℕ) → IsReady table plan target → k ≡ plan.count →
    offered is_before k [] (filter (is_within table.schema.columns plan.select.where_terms) (hits_over table plan.select.where_terms target (wanted_chunks table plan.select.where_terms)))
    ≡ nearest_hits table plan.select
nearest_found table plan target k ready same =
    let columns = table.schema.columns in
    let terms = plan.select.where_terms in
    let of = target_there table plan target ready in
    let rows = plain_rows table.rows in
    ap (λ (t : PlannedTarget). offered is_before k [] (filter (is_within columns terms) (hits_over table terms t (wanted_chunks table terms)))) (sym of.is)
    ∙ found_hits table plan of.sought k ready.placed
    ∙ ap (λ n. map hit_of (first_ranked near_before n (map (near_to of.sought) (counted columns terms (Some of.sought) rows)))) (same ∙ ready.plan_for.count)
    ∙ ap (λ (o : Option Target). map hit_of (chosen o columns plan.select (counted columns terms o rows))) (sym of.found)

-- As many vectors are read as rows meet the terms that are not on distance.
pub reads_found : (table : PlacedTable) (terms : List Constraint) (target : PlannedTarget) → IsPlaced table → length (hits_over table terms target (wanted_chunks table terms)) ≡ length (read_rows table terms)
reads_found table terms target placed =
    let columns = table.schema.columns in
    ap length (over_below table terms target above_chunks placed)
    ∙ length-shuffle (map (row_hit target) (filter (is_read_row table terms) table.rows)) (gathered (is_read_row table terms) (row_hit target) table.rows table.schema.chunk_size above_chunks)
    (shuffled table (is_read_row table terms) (row_hit target) placed)
    ∙ length-map (filter (is_read_row table terms) table.rows) (row_hit target)
    ∙ sym (length-map (filter (is_read_row table terms) table.rows) (λ p. p.row))
    ∙ sym (ap length (filter_map-row (is_read columns terms) table.rows))

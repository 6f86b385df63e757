-- The answer of a SELECT that says which rowid or key is wanted.
use Rattle.std.proofs.Common.{◌≡◌, ℕ, zero, suc, ◌≤◌, ℤ, true, List, [], ◌∷◌, length, map, take, refl, sym, ap, ◌∙◌, arith, Option, Some, None}
use Rattle.std.proofs.lemmas.List.{length-map, length-take}
use Rattle.vec_base.specs.declared.limits.TheConstants.{MOST_REPLY_ROWS}
use Rattle.std.specs.Prelude.{is_some}
use Rattle.std.specs.Option.{option_map}
use Rattle.vec_base.specs.declared.value.Value.{Value}
use Rattle.knn_plan.specs.Plans.{IsPlanFor, Planned}
use Rattle.row_model.specs.Answer.{answer, limited, number_in}
use Rattle.row_model.specs.Values.{met}
use Rattle.row_model.specs.declared.request.Shape.TheVariants.{Point}
use Rattle.row_model.specs.declared.row.Row.{Row}
use Rattle.shadow_records.specs.PlacedTables.{IsPlaced, PlacedTable, plain, plain_rows, row_of}
use Rattle.table_answers.proofs.ShapeFacts.{point_plain}
use Rattle.table_query.proofs.PointLaws.{point_none, point_one, the_answer}
use Rattle.table_query.specs.Items.{items_at}
use Rattle.table_rows.proofs.ScanLaws.{items_in, scan_answer}

plain_answer : (table : PlacedTable) (plan : Planned) → IsPlanFor table.schema.columns plan → plan.shape ≡ Point →
    answer (plain table) plan.select ≡ map (items_in table.schema.columns plan.select.items) (limited plan.select.limit (met table.schema.columns plan.select.where_terms (plain_rows table.rows)))
plain_answer table plan is point = scan_answer plan table is (point_plain table.schema.columns plan is point)

-- LIMIT 0
pub none_wanted : (table : PlacedTable) (plan : Planned) → IsPlanFor table.schema.columns plan → plan.shape ≡ Point → option_map number_in plan.select.limit ≡ Some 0 → [] ≡ answer (plain table) plan.select
none_wanted table plan is point zero_is =
    ap (map (items_in table.schema.columns plan.select.items)) (by_limit plan.select.limit zero_is (met table.schema.columns plan.select.where_terms (plain_rows table.rows))) ∙ sym (plain_answer table plan is point) where
      by_limit : (given : Option Value) → option_map number_in given ≡ Some 0 → (rows : List Row) → [] ≡ limited given rows
      by_limit None e rows = absurd cc
      by_limit (Some value) e rows = let same : number_in value ≡ 0 = cc in ap (λ n. take n rows) (sym same)

abbrev nil : {A : Type 0} → List A
nil = []

none_limited : (given : Option Value) → limited given [] ≡ []
none_limited None = refl
none_limited (Some value) = by_number (number_in value) where
  by_number : (n : ℕ) → take n (nil {A = Row}) ≡ nil
  by_number zero = refl
  by_number (suc n) = refl

pub none_found : (table : PlacedTable) (plan : Planned) → IsPlanFor table.schema.columns plan → plan.shape ≡ Point → the_answer table plan ≡ None → [] ≡ answer (plain table) plan.select
none_found table plan is point none =
    sym (plain_answer table plan is point
    ∙ ap (λ (rows : List Row). map (items_in table.schema.columns plan.select.items) (limited plan.select.limit rows)) (point_none table plan none)
    ∙ ap (map (items_in table.schema.columns plan.select.items)) (none_limited plan.select.limit))

pub one_there : (table : PlacedTable) (plan : Planned) → IsPlaced table → IsPlanFor table.schema.columns plan → plan.shape ≡ Point → (rowid : ℤ) → the_answer table plan ≡ Some rowid → is_some (row_of table.rows rowid) ≡ true
one_there table plan placed is point rowid found = let one = point_one table plan placed is point rowid found in ap is_some one.there

one_limited : (given : Option Value) (row : Row) → (option_map number_in given ≡ Some 0 → ⊥) → limited given (row ∷ []) ≡ row ∷ []
one_limited None row some = refl
one_limited (Some value) row some = by_number (number_in value) refl where
  by_number : (n : ℕ) → number_in value ≡ n → take n (row ∷ []) ≡ row ∷ []
  by_number zero e = absurd (some (ap Some e))
  by_number (suc zero) e = refl
  by_number (suc (suc n)) e = refl

pub one_found : (table : PlacedTable) (plan : Planned) → IsPlaced table → IsPlanFor table.schema.columns plan → plan.shape ≡ Point → (option_map number_in plan.select.limit ≡ Some 0 → ⊥) →
    (rowid : ℤ) → the_answer table plan ≡ Some rowid → (values : List Value) → option_map (items_at table.schema.columns plan.select.items 0) (row_of table.rows rowid) ≡ Some values →
    values ∷ [] ≡ answer (plain table) plan.select
one_found table plan placed is point some rowid found values made =
    let columns = table.schema.columns in
    let items = items_in columns plan.select.items in
    let one = point_one table plan placed is point rowid found in
    let shown : Some (items one.placed.row) ≡ Some values = sym (ap (option_map (items_at columns plan.select.items 0)) one.there) ∙ made in
    let same : items one.placed.row ≡ values = cc in
    sym (plain_answer table plan is point
    ∙ ap (λ (rows : List Row). map items (limited plan.select.limit rows)) one.only
    ∙ ap (map items) (one_limited plan.select.limit one.placed.row some)
    ∙ ap (λ (l : List Value). l ∷ []) same)

-- ---- at most one row is answered

one_short : (given : Option Value) (row : Row) → length (limited given (row ∷ [])) ≤ 1
one_short None row = omega arith
one_short (Some value) row = let taken = length-take (number_in value) (row ∷ []) in omega (arith, taken)

pub point_few : (table : PlacedTable) (plan : Planned) → IsPlaced table → IsPlanFor table.schema.columns plan → plan.shape ≡ Point → length (answer (plain table) plan.select) ≤ MOST_REPLY_ROWS
point_few table plan placed is point = by_answer (the_answer table plan) refl where
  by_answer : (found : Option ℤ) → the_answer table plan ≡ found → length (answer (plain table) plan.select) ≤ MOST_REPLY_ROWS
  by_answer None e = let none : length (answer (plain table) plan.select) ≡ 0 = ap length (sym (none_found table plan is point e)) in omega (arith, none)
  by_answer (Some rowid) e =
      let columns = table.schema.columns in
      let items = items_in columns plan.select.items in
      let one = point_one table plan placed is point rowid e in
      let many : length (answer (plain table) plan.select) ≡ length (limited plan.select.limit (one.placed.row ∷ [])) =
      ap length (plain_answer table plan is point ∙ ap (λ (rows : List Row). map items (limited plan.select.limit rows)) one.only)
      ∙ length-map (limited plan.select.limit (one.placed.row ∷ [])) items in
      let short = one_short plan.select.limit one.placed.row in
      omega (arith, many, short)

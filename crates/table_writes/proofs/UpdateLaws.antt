-- New values in rows: which columns take them, what refuses them, and the rows that have them.
use Rattle.std.proofs.Common.{◌≡◌, ℕ, ℤ, ◌+◌, ◌*◌, ◌-◌, ◌≤◌, ◌<◌, Bool, true, false, cond, List, [], ◌∷◌, ◌++◌, ◌∙◌, refl, sym, ap, ap₂, arith, length, map, Option, Some, None, inl, inr}
use Rattle.std.specs.Prelude.{◌||◌, filter, int_lt, is_some, nat_lt, slice_set, sum_by, if◌then◌else◌}
use Rattle.std.specs.List.{list_all, AllByRecursion}
use Rattle.std.specs.Option.{option_or}
use Rattle.std.specs.Ordering.{int_eq}
use Rattle.std.proofs.lemmas.Bool.{and_parts, and_from, cases_Bool, ltb-false}
use Rattle.std.proofs.lemmas.Int.{ints}
use Rattle.std.proofs.lemmas.List.Sums.{sum_by-cons}
use Rattle.vec_base.specs.declared.limits.TheConstants.{LAST_COUNT, MOST_SIDE_BYTES, MOST_VALUE_BYTES, MOST_VECTOR_BYTES}
use Rattle.vec_base.specs.declared.refusal.Refusal.{Refusal}
use Rattle.vec_base.specs.declared.value.Value.{Value}
use Rattle.row_model.specs.Change.{Elsewhere, long_values, put_at, rows_side_bytes, rows_vector_bytes, set_all, update_refusals, updated, updated_row, with_rows}
use Rattle.row_model.specs.Check.{check_update}
use Rattle.row_model.specs.ColumnNames.{place_of}
use Rattle.row_model.specs.Limits.{over_sides, over_vectors}
use Rattle.row_model.specs.RefusalOrder.{first}
use Rattle.row_model.specs.RepresentableStatements.{IsRepresentableAssign}
use Rattle.row_model.specs.Rows.{is_rising}
use Rattle.row_model.specs.Schemas.{is_key, is_partition, is_vector}
use Rattle.row_model.specs.Values.{meets_all, met, side_bytes}
use Rattle.row_model.specs.declared.limits.TheConstants.{SIDE_BYTES_LIMIT, VECTOR_BYTES_LIMIT}
use Rattle.row_model.specs.declared.row.Row.{Row}
use Rattle.row_model.specs.declared.row.Table.{Table}
use Rattle.row_model.specs.declared.schema.Column.{Column}
use Rattle.row_model.specs.declared.schema.Kind.{Kind}
use Rattle.row_model.specs.declared.schema.Kind.TheVariants.{IntKey, TextKey, Int8Vector, BitVector, IntPartition, TextPartition, IntMeta, TextMeta, BoolMeta, IntAux, TextAux, BlobAux}
use Rattle.row_model.specs.declared.schema.Place.{Place}
use Rattle.row_model.specs.declared.schema.Place.TheVariants.{Unknown, Rowid, Declared, Count, Distance}
use Rattle.row_model.specs.declared.statement.Assign.{Assign}
use Rattle.row_model.specs.declared.statement.Update.{Update}
use Rattle.row_model.proofs.SelectLaws.{both_empty}
use Rattle.row_model.proofs.ValidityRows.{length_map, no_int_key, short_first, valid_given, valid_updated}
use Rattle.knn_plan.proofs.NumberLaws.{column_there}
use Rattle.row_chunks.specs.Cells.{is_cell, is_cell_value}
use Rattle.shadow_records.specs.PlacedTables.{IsPlaced, PlacedRow, PlacedTable, plain, plain_rows, row_of}
use Rattle.table_query.proofs.ReadLaws.{place_there}
use Rattle.table_version.specs.Kept.{widths_of}
use Rattle.table_version.specs.PlacedRows.{changed_placed, table_changed, table_without, with_value}
use Rattle.table_version.specs.Viewed.{can_set, kind_numbered}
use Rattle.table_version.specs.inner.StoredBytes.{total_width}
use Rattle.table_version.proofs.ByteLaws.{side_bytes-fit}
use Rattle.table_version.proofs.KeptBytes.{rows_vector_bytes-fixed}
use Rattle.table_version.proofs.PlacedLaws.{plain-without}
use Rattle.table_writes.specs.inner.Capped.{capped}
use Rattle.table_writes.specs.inner.NewValues.{bytes_come, bytes_gone, declared_number, gone_at}
use Rattle.table_writes.specs.inner.OneByOne.{one_by_one, set_one, with_sets, without}
use Rattle.table_writes.specs.inner.SetColumns.{IsSettable}
use Rattle.table_writes.specs.inner.Updates.{IsUpdateOf}
use Rattle.table_writes.proofs.ByteLaws.{rows_after}
use Rattle.table_writes.proofs.FoundLaws.{met_ids}
use Rattle.table_writes.proofs.OneByOneLaws.{all_above, ids_above, not_equal}
use Rattle.table_writes.proofs.RefusalLaws.{first-append, none_empty}
use Rattle.table_writes.proofs.SetLaws.{IsChange, checked_sets, index_of}
use Rattle.table_writes.proofs.TotalLaws.{over_capped, side_is}

-- ---- columns that take new values

kind_there : (columns : List Column) (name : List ℕ) (number : ℕ) (kind : Kind) → place_of columns name ≡ Declared number kind → kind_numbered columns number ≡ Some kind
kind_there columns name number kind is = place_there columns name (Declared number kind) (sym is)

has_values : (kind : Kind) → is_key kind ≡ false → is_partition kind ≡ false → (is_vector kind || is_cell kind) ≡ true
has_values IntKey no_key no_partition = absurd cc
has_values TextKey no_key no_partition = absurd cc
has_values (Int8Vector width metric) no_key no_partition = refl
has_values (BitVector width) no_key no_partition = refl
has_values IntPartition no_key no_partition = absurd cc
has_values TextPartition no_key no_partition = absurd cc
has_values IntMeta no_key no_partition = refl
has_values TextMeta no_key no_partition = refl
has_values BoolMeta no_key no_partition = refl
has_values IntAux no_key no_partition = refl
has_values TextAux no_key no_partition = refl
has_values BlobAux no_key no_partition = refl

settable_one : (columns : List Column) (set : Assign) → IsChange columns set → side_bytes set.value ≤ MOST_VALUE_BYTES → IsSettable columns set
settable_one columns set is short = record {
  takes =
      ap (λ (p : Place). can_set (kind_numbered columns (declared_number p)) set.value) is.at
      ∙ ap (λ (o : Option Kind). can_set o set.value) (kind_there columns set.column is.number is.kind is.at)
      ∙ and_from (is_vector is.kind || is_cell is.kind) (is_cell_value is.kind set.value) (has_values is.kind is.no_key is.no_partition)
      (valid_given is.number is.kind set.value (no_int_key is.kind is.no_key) is.given short);
}

pub settable : (columns : List Column) (sets : List Assign) → AllByRecursion (IsChange columns) sets → long_values (map (λ set. set.value) sets) ≡ [] → AllByRecursion (IsSettable columns) sets
settable columns [] changes short = tt
settable columns (set ∷ sets) changes short =
    let shorts = short_first set.value (map (λ s. s.value) sets) short in
    (settable_one columns set changes.0 shorts.0, settable columns sets changes.1 shorts.1)

within : (columns : List Column) (sets : List Assign) → AllByRecursion (IsChange columns) sets → AllByRecursion (λ (set : Assign). index_of columns set < length columns) sets
within columns [] changes = tt
within columns (set ∷ sets) changes = (here changes.0, within columns sets changes.1) where
  here : IsChange columns set → index_of columns set < length columns
  here is =
      let at = (column_there columns set.column is.number is.kind is.at).1 in
      let low = at.within in
      let same = ap declared_number is.at in
      omega (arith, low, same)

-- ---- bytes that go

sum_alike : (f g : ℤ → ℕ) (n : ℤ) (ids : List ℤ) → ((i : ℤ) → int_lt n i ≡ true → f i ≡ g i) → list_all (λ (i : ℤ). int_lt n i) ids ≡ true → sum_by f ids ≡ sum_by g ids
sum_alike f g n [] same above = refl
sum_alike f g n (i ∷ ids) same above =
    let parts = and_parts (int_lt n i) (list_all (λ (j : ℤ). int_lt n j) ids) above in
    sum_by-cons f i ids ∙ ap₂ (λ (a b : ℕ). a + b) (same i parts.0) (sum_alike f g n ids same parts.1) ∙ sym (sum_by-cons g i ids)

eq_self : (a : ℤ) → int_eq a a ≡ true
eq_self a = grind (arith, ints)

-- the rows of the rowids are those that meet the terms
pub gone_total : (columns : List Column) (sets : List Assign) (such : Row → Bool) (ps : List PlacedRow) → is_rising (plain_rows ps) ≡ true →
    sum_by (λ (i : ℤ). gone_at columns sets (row_of ps i)) (map (λ (r : Row). r.rowid) (filter such (plain_rows ps))) ≡ sum_by (bytes_gone columns sets) (filter such (plain_rows ps))
gone_total columns sets such [] rising = refl
gone_total columns sets such (p ∷ ps) rising =
    let parts = and_parts (all_above p.row.rowid (plain_rows ps)) (is_rising (plain_rows ps)) rising in
    let above = ids_above p.row.rowid such (plain_rows ps) parts.0 in
    let ids = map (λ (r : Row). r.rowid) (filter such (plain_rows ps)) in
    let rest = sum_alike (λ i. gone_at columns sets (row_of (p ∷ ps) i)) (λ i. gone_at columns sets (row_of ps i)) p.row.rowid ids
    (λ i less. ap (λ b. gone_at columns sets (cond b (Some p) (row_of ps i))) (not_equal p.row.rowid i less)) above
    ∙ gone_total columns sets such ps parts.1 in
    let own : gone_at columns sets (row_of (p ∷ ps) p.row.rowid) ≡ bytes_gone columns sets p.row = ap (λ b. gone_at columns sets (cond b (Some p) (row_of ps p.row.rowid))) (eq_self p.row.rowid) in
    elim (such p.row) as (λ b. sum_by (λ (i : ℤ). gone_at columns sets (row_of (p ∷ ps) i)) (map (λ (r : Row). r.rowid) (cond b (p.row ∷ filter such (plain_rows ps)) (filter such (plain_rows ps))))
    ≡ sum_by (bytes_gone columns sets) (cond b (p.row ∷ filter such (plain_rows ps)) (filter such (plain_rows ps)))) [
      | true ↦ sum_by-cons (λ (i : ℤ). gone_at columns sets (row_of (p ∷ ps) i)) p.row.rowid ids ∙ ap₂ (λ (a b : ℕ). a + b) own rest ∙ sym (sum_by-cons (bytes_gone columns sets) p.row (filter such (plain_rows ps)))
      | false ↦ rest
    ]

-- ---- the bytes after the UPDATE

-- the rows of the UPDATE, and what is known of its new values
pub record IsUpdatable (table : PlacedTable) (update : Update) (rowids : List ℤ) : Type 0 where
  pub placed : IsPlaced table
  pub checked : check_update table.schema.columns update ≡ None
  pub met_are : rowids ≡ met_ids table.schema.columns update.where_terms (plain_rows table.rows)

pub updatable : (table : PlacedTable) (update : Update) (rowids : List ℤ) (sets : List Assign) → IsPlaced table → IsUpdateOf table update rowids sets → IsUpdatable table update rowids
updatable table update rowids sets placed is = record { placed = placed; checked = is.checked; met_are = is.met_are }

pub sides_after : (table : PlacedTable) (update : Update) (rowids : List ℤ) (beside gone come total : ℕ) → IsUpdatable table update rowids → total ≡ rows_side_bytes (plain_rows table.rows) →
    gone ≡ capped (sum_by (λ (i : ℤ). gone_at table.schema.columns update.sets (row_of table.rows i)) rowids) → come ≡ capped (bytes_come update.sets) →
    capped (beside + capped (total - gone + capped (length rowids * come))) ≡ capped (beside + rows_side_bytes (updated table.schema.columns update (plain_rows table.rows)))
sides_after table update rowids beside gone come total is total_is gone_are come_are =
    let columns = table.schema.columns in
    let rows = plain_rows table.rows in
    let checked = checked_sets columns update is.checked in
    let after = rows_after columns update rows checked.changes checked.apart (within columns update.sets checked.changes) is.placed.valid.values in
    let all_gone = sum_by (bytes_gone columns update.sets) (met columns update.where_terms rows) in
    let gone_is : gone ≡ capped all_gone =
    gone_are ∙ ap (λ (ids : List ℤ). capped (sum_by (λ (i : ℤ). gone_at columns update.sets (row_of table.rows i)) ids)) is.met_are
    ∙ ap capped (gone_total columns update.sets (λ (r : Row). meets_all columns update.where_terms r) table.rows is.placed.valid.rising) in
    let count : length rowids ≡ length (met columns update.where_terms rows) = ap length is.met_are ∙ length_map (λ (r : Row). r.rowid) (met columns update.where_terms rows) in
    let fits = side_bytes-fit (plain table) is.placed.valid in
    let low : rows_side_bytes rows ≤ LAST_COUNT = omega (arith, fits) in
    ap (λ (n : ℕ). capped (beside + capped (n - gone + capped (length rowids * come)))) total_is
    ∙ ap₂ (λ (g c : ℕ). capped (beside + capped (rows_side_bytes rows - g + capped (length rowids * c)))) gone_is come_are
    ∙ ap (λ (n : ℕ). capped (beside + capped (rows_side_bytes rows - capped all_gone + capped (n * capped (bytes_come update.sets))))) count
    ∙ side_is beside (rows_side_bytes rows) all_gone (bytes_come update.sets) (length (met columns update.where_terms rows)) (rows_side_bytes (updated columns update rows)) after.sum after.most low

-- ---- what refuses it

abbrev pub long_of : Table → Update → List Refusal
long_of table update = if nat_lt 0 (length (met table.schema.columns update.where_terms table.rows)) then long_values (map (λ set. set.value) update.sets) else []

pub long_is : (table : PlacedTable) (update : Update) (rowids : List ℤ) → IsUpdatable table update rowids →
    (if nat_lt 0 (length rowids) then long_values (map (λ set. set.value) update.sets) else []) ≡ long_of (plain table) update
long_is table update rowids is =
    let columns = table.schema.columns in
    let rows = plain_rows table.rows in
    let count : length rowids ≡ length (met columns update.where_terms rows) = ap length is.met_are ∙ length_map (λ (r : Row). r.rowid) (met columns update.where_terms rows) in
    ap (λ (n : ℕ). if nat_lt 0 n then long_values (map (λ set. set.value) update.sets) else []) count

-- each row has as many bytes of vectors as before
vectors_after : (table : PlacedTable) (update : Update) (rowids : List ℤ) → IsUpdatable table update rowids → AllByRecursion IsRepresentableAssign update.sets → long_of (plain table) update ≡ [] →
    rows_vector_bytes (updated table.schema.columns update (plain_rows table.rows)) ≡ rows_vector_bytes (plain_rows table.rows)
vectors_after table update rowids is held short =
    let columns = table.schema.columns in
    let rows = plain_rows table.rows in
    let checked = checked_sets columns update is.checked in
    let valid = valid_updated (plain table) update is.placed.valid checked.sets held short in
    rows_vector_bytes-fixed columns (updated columns update rows) valid.values
    ∙ ap (λ (n : ℕ). n * total_width (widths_of columns)) (length_map (updated_row columns update) rows)
    ∙ sym (rows_vector_bytes-fixed columns rows is.placed.valid.values)

pub refused_long : (other : Elsewhere) (table : PlacedTable) (update : Update) (long : Option Refusal) → long ≡ first (long_of (plain table) update) → is_some long ≡ true →
    long ≡ first (update_refusals other (plain table) update)
refused_long other table update None is some = absurd cc
refused_long other table update (Some refusal) is some =
    let rows = updated table.schema.columns update (plain_rows table.rows) in
    let l = long_of (plain table) update in
    let v = over_vectors (other.vectors + rows_vector_bytes rows) in
    let s = over_sides (other.sides + rows_side_bytes rows) in
    let here : first l ≡ Some refusal = sym is in
    sym (first-append (l ++ v) s ∙ ap (λ o. option_or o (first s)) (first-append l v ∙ ap (λ o. option_or o (first v)) here))

pub not_some : (o : Option Refusal) → is_some o ≡ false → o ≡ None
not_some None h = refl
not_some (Some refusal) h = absurd cc

pub refused_room : (other : Elsewhere) (table : PlacedTable) (update : Update) (rowids : List ℤ) (vectors sides : ℕ) → IsUpdatable table update rowids → AllByRecursion IsRepresentableAssign update.sets →
    first (long_of (plain table) update) ≡ None → vectors ≡ capped (other.vectors + rows_vector_bytes (plain_rows table.rows)) →
    sides ≡ capped (other.sides + rows_side_bytes (updated table.schema.columns update (plain_rows table.rows))) →
    option_or (first (over_vectors vectors)) (first (over_sides sides)) ≡ first (update_refusals other (plain table) update)
refused_room other table update rowids vectors sides is held none v s =
    let short = none_empty (long_of (plain table) update) none in
    let rows = updated table.schema.columns update (plain_rows table.rows) in
    let same = vectors_after table update rowids is held short in
    let vs : over_vectors vectors ≡ over_vectors (other.vectors + rows_vector_bytes rows) =
    ap over_vectors v ∙ over_capped VECTOR_BYTES_LIMIT MOST_VECTOR_BYTES (other.vectors + rows_vector_bytes (plain_rows table.rows)) ∙ ap (λ (n : ℕ). over_vectors (other.vectors + n)) (sym same) in
    let ss : over_sides sides ≡ over_sides (other.sides + rows_side_bytes rows) = ap over_sides s ∙ over_capped SIDE_BYTES_LIMIT MOST_SIDE_BYTES (other.sides + rows_side_bytes rows) in
    ap₂ (λ (a b : List Refusal). option_or (first a) (first b)) vs ss
    ∙ sym (first-append (over_vectors (other.vectors + rows_vector_bytes rows)) (over_sides (other.sides + rows_side_bytes rows)))
    ∙ ap (λ (l : List Refusal). first (l ++ over_vectors (other.vectors + rows_vector_bytes rows) ++ over_sides (other.sides + rows_side_bytes rows))) (sym short)

-- a row is there, so no new value is too long
pub all_settable : (table : PlacedTable) (update : Update) (rowids : List ℤ) (other : Elsewhere) → IsUpdatable table update rowids → first (update_refusals other (plain table) update) ≡ None → 0 < length rowids →
    AllByRecursion (IsSettable table.schema.columns) update.sets
all_settable table update rowids other is none some =
    let columns = table.schema.columns in
    let rows = updated columns update (plain_rows table.rows) in
    let empty = none_empty (update_refusals other (plain table) update) none in
    let sides = both_empty (long_of (plain table) update ++ over_vectors (other.vectors + rows_vector_bytes rows)) (over_sides (other.sides + rows_side_bytes rows)) empty in
    let long = (both_empty (long_of (plain table) update) (over_vectors (other.vectors + rows_vector_bytes rows)) sides.0).0 in
    let short : long_values (map (λ set. set.value) update.sets) ≡ [] = there (length rowids) some ∙ long_is table update rowids is ∙ long in
    settable columns update.sets (checked_sets columns update is.checked).changes short
  where
    there : (n : ℕ) → 0 < n → long_values (map (λ set. set.value) update.sets) ≡ (if nat_lt 0 n then long_values (map (λ set. set.value) update.sets) else [])
    there n low = elim (cases_Bool (nat_lt 0 n)) [
      | inl h ↦ sym (ap (λ (b : Bool). if b then long_values (map (λ set. set.value) update.sets) else []) h)
      | inr h ↦ (let none_there = ltb-false 0 n h in absurd (omega (arith, low, none_there)))
    ]

-- ---- a row that gets its new values

put_settable : (columns : List Column) (set : Assign) (values : List Value) → IsSettable columns set →
    put_at (place_of columns set.column) set.value values ≡ slice_set values (declared_number (place_of columns set.column) - 1) set.value
put_settable columns set values is = by_place (place_of columns set.column) is.takes where
  by_place : (place : Place) → can_set (kind_numbered columns (declared_number place)) set.value ≡ true → put_at place set.value values ≡ slice_set values (declared_number place - 1) set.value
  by_place (Declared number kind) takes = refl
  by_place Unknown takes = absurd cc
  by_place Rowid takes = absurd cc
  by_place Count takes = absurd cc
  by_place Distance takes = absurd cc

-- one value of the row
abbrev with_one : ℕ → Value → Row → Row
with_one at value row = record row { values = slice_set row.values at value }

plain_changed : (rowid : ℤ) (at : ℕ) (value : Value) (ps : List PlacedRow) → plain_rows (changed_placed rowid at value ps) ≡ map (λ (r : Row). if int_eq r.rowid rowid then with_one at value r else r) (plain_rows ps)
plain_changed rowid at value [] = refl
plain_changed rowid at value (p ∷ ps) = ap₂ (λ (r : Row) (rs : List Row). r ∷ rs) (by_test (int_eq p.row.rowid rowid)) (plain_changed rowid at value ps) where
  by_test : (b : Bool) → (if b then with_value at value p else p).row ≡ (if b then with_one at value p.row else p.row)
  by_test true = refl
  by_test false = refl

then_more : (columns : List Column) (set : Assign) (more : List Assign) (rowid : ℤ) (rows : List Row) → IsSettable columns set →
    set_one columns more rowid (map (λ (r : Row). if int_eq r.rowid rowid then with_one (declared_number (place_of columns set.column) - 1) set.value r else r) rows) ≡ set_one columns (set ∷ more) rowid rows
then_more columns set more rowid [] is = refl
then_more columns set more rowid (r ∷ rs) is = ap₂ (λ (x : Row) (xs : List Row). x ∷ xs) (by_test (int_eq r.rowid rowid) refl) (then_more columns set more rowid rs is) where
  at : ℕ
  at = declared_number (place_of columns set.column) - 1

  by_test : (b : Bool) → int_eq r.rowid rowid ≡ b →
      (if int_eq (if b then with_one (declared_number (place_of columns set.column) - 1) set.value r else r).rowid rowid
      then with_sets columns more (if b then with_one (declared_number (place_of columns set.column) - 1) set.value r else r)
      else (if b then with_one (declared_number (place_of columns set.column) - 1) set.value r else r))
      ≡ (if b then with_sets columns (set ∷ more) r else r)
  by_test true e =
      ap (λ c. if c then with_sets columns more (with_one (declared_number (place_of columns set.column) - 1) set.value r) else with_one (declared_number (place_of columns set.column) - 1) set.value r) e
      ∙ ap (λ (vs : List Value). with_values (set_all columns more vs)) (sym (put_settable columns set r.values is))
    where
      with_values : List Value → Row
      with_values vs = record r { values = vs }
  by_test false e = ap (λ c. if c then with_sets columns more r else r) e

pub set_then : (old mid new : PlacedTable) (set : Assign) (more : List Assign) (rowid : ℤ) (number : ℕ) → IsSettable old.schema.columns set → number ≡ declared_number (place_of old.schema.columns set.column) →
    mid ≡ table_changed old rowid number set.value → plain new ≡ with_rows (plain mid) (set_one mid.schema.columns more rowid (plain_rows mid.rows)) →
    plain new ≡ with_rows (plain old) (set_one old.schema.columns (set ∷ more) rowid (plain_rows old.rows))
set_then old mid new set more rowid number is number_is changed rest =
    rest
    ∙ ap (λ (t : PlacedTable). with_rows (plain t) (set_one t.schema.columns more rowid (plain_rows t.rows))) (changed ∙ ap (λ (n : ℕ). table_changed old rowid n set.value) number_is)
    ∙ ap (λ (rows : List Row). with_rows (plain old) (set_one old.schema.columns more rowid rows)) (plain_changed rowid (declared_number (place_of old.schema.columns set.column) - 1) set.value old.rows)
    ∙ ap (with_rows (plain old)) (then_more old.schema.columns set more rowid (plain_rows old.rows) is)

set_none : (columns : List Column) (rowid : ℤ) (rows : List Row) → set_one columns [] rowid rows ≡ rows
set_none columns rowid [] = refl
set_none columns rowid (r ∷ rs) = ap₂ (λ (x : Row) (xs : List Row). x ∷ xs) (by_test (int_eq r.rowid rowid)) (set_none columns rowid rs) where
  by_test : (b : Bool) → (if b then with_sets columns [] r else r) ≡ r
  by_test true = refl
  by_test false = refl

pub no_sets : (sets : List Assign) → length sets ≡ 0 → sets ≡ []
no_sets [] none = refl
no_sets (set ∷ sets) none = absurd (omega (arith, none))

pub set_nothing : (table : PlacedTable) (sets : List Assign) (rowid : ℤ) → sets ≡ [] → plain table ≡ with_rows (plain table) (set_one table.schema.columns sets rowid (plain_rows table.rows))
set_nothing table sets rowid none =
    sym (ap (λ (ss : List Assign). with_rows (plain table) (set_one table.schema.columns ss rowid (plain_rows table.rows))) none ∙ ap (with_rows (plain table)) (set_none table.schema.columns rowid (plain_rows table.rows)))

pub plain_removed : (old new : PlacedTable) (rowid : ℤ) → new ≡ table_without old rowid → plain new ≡ with_rows (plain old) (without rowid (plain_rows old.rows))
plain_removed old new rowid is = ap plain is ∙ ap (with_rows (plain old)) (plain-without rowid old.rows)

-- ---- one rowid after another

-- what is made of the rows so far goes on to what is made of all
pub record IsUnderWay (old now : PlacedTable) (step : ℤ → List Row → List Row) (rowids rest : List ℤ) : Type 0 where
  pub rows : one_by_one step rest (plain_rows now.rows) ≡ one_by_one step rowids (plain_rows old.rows)
  pub same : plain now ≡ with_rows (plain old) (plain_rows now.rows)
  pub name : now.name ≡ old.name

pub begins : (table : PlacedTable) (step : ℤ → List Row → List Row) (rowids : List ℤ) → IsUnderWay table table step rowids rowids
begins table step rowids = record { rows = refl; same = refl; name = refl }

pub goes_on : (old now new : PlacedTable) (step : ℤ → List Row → List Row) (rowids rest more : List ℤ) (rowid : ℤ) → IsUnderWay old now step rowids rest → rest ≡ rowid ∷ more →
    plain new ≡ with_rows (plain now) (step rowid (plain_rows now.rows)) → new.name ≡ now.name → IsUnderWay old new step rowids more
goes_on old now new step rowids rest more rowid is first changed name =
    let rows : plain_rows new.rows ≡ step rowid (plain_rows now.rows) = ap (λ (t : Table). t.rows) changed in
    record {
      rows = ap (one_by_one step more) rows ∙ sym (ap (λ (ids : List ℤ). one_by_one step ids (plain_rows now.rows)) first) ∙ is.rows;
      same = changed ∙ ap (λ (t : Table). with_rows t (step rowid (plain_rows now.rows))) is.same ∙ ap (with_rows (plain old)) (sym rows);
      name = name ∙ is.name;
    }

pub ends : (old now : PlacedTable) (step : ℤ → List Row → List Row) (rowids rest : List ℤ) → IsUnderWay old now step rowids rest → rest ≡ [] →
    plain now ≡ with_rows (plain old) (one_by_one step rowids (plain_rows old.rows))
ends old now step rowids rest is none =
    is.same ∙ ap (with_rows (plain old)) (sym (ap (λ (ids : List ℤ). one_by_one step ids (plain_rows now.rows)) none) ∙ is.rows)

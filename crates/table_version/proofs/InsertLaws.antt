-- A new row: what refuses it by what is stored, and what it makes of a sound store.
use Rattle.std.proofs.Common.{◌≡◌, ℕ, ℤ, ◌+◌, ◌≤◌, Bool, true, false, cond, List, [], ◌∷◌, ◌++◌, ◌∙◌, refl, sym, ap, arith, length, Option, Some, None}
use Rattle.std.specs.Prelude.{◌||◌, find, is_some, nat_lt, bytes_eq}
use Rattle.std.specs.List.{list_all, AllByRecursion}
use Rattle.std.specs.Option.{option_map}
use Rattle.std.specs.Ordering.{int_eq}
use Rattle.std.proofs.lemmas.Slice.Eq.{bytes_eq-Decides}
use Rattle.vec_base.specs.declared.limits.TheConstants.{MOST_ROWS}
use Rattle.vec_base.specs.declared.refusal.Refusal.TheVariants.{Duplicate}
use Rattle.vec_base.specs.declared.value.Value.{Value}
use Rattle.row_model.specs.Change.{duplicate, spent, taken_id, taken_rowid}
use Rattle.row_model.specs.Limits.{over_rows}
use Rattle.row_model.specs.RefusalOrder.{when}
use Rattle.row_model.specs.Rows.{has_rowid}
use Rattle.row_model.specs.Schemas.{count_of, is_key}
use Rattle.row_model.specs.Valid.{are_valid_values, is_valid_row}
use Rattle.row_model.specs.declared.limits.TheConstants.{ROWS_LIMIT}
use Rattle.row_model.specs.declared.row.Row.{Row}
use Rattle.row_model.specs.declared.row.Table.{Table}
use Rattle.row_model.specs.declared.schema.Column.{Column}
use Rattle.row_model.proofs.SelectLaws.{both_empty}
use Rattle.row_model.proofs.ValidityRows.{over_none}
use Rattle.row_store.specs.Shown.{shown}
use Rattle.row_store.specs.declared.readers.RowRef.{RowRef}
use Rattle.row_store.specs.StoredRows.{StoredRow, has_text, rowid_of, row_of as stored_of}
use Rattle.shadow_records.specs.PlacedTables.{PlacedRow, plain_rows}
use Rattle.table_version.specs.Inserting.{insert_refusals, new_row}
use Rattle.table_version.specs.Kept.{id_in, is_one_id}
use Rattle.table_version.specs.inner.Refusing.{given_taken, taken_text, twice}
use Rattle.table_version.specs.inner.StoredTables.{placed, placed_rows, GivesAgain}
use Rattle.table_version.proofs.StoredLaws.{each, find-alike, find-map, weaken}
use Rattle.table_version.proofs.ValidityLaws.{find-same_id}

-- ---- what refuses it

same_text : (a b : List ℕ) → bytes_eq a b ≡ bytes_eq b a
same_text a b = by_test (bytes_eq a b) refl (bytes_eq b a) refl where
  by_test : (s : Bool) → bytes_eq a b ≡ s → (t : Bool) → bytes_eq b a ≡ t → s ≡ t
  by_test true e true f = refl
  by_test false e false f = refl
  by_test true e false f = let there : bytes_eq b a ≡ true = (bytes_eq-Decides b a).1 (sym ((bytes_eq-Decides a b).0 e)) in absurd cc
  by_test false e true f = let there : bytes_eq a b ≡ true = (bytes_eq-Decides a b).1 (sym ((bytes_eq-Decides b a).0 f)) in absurd cc

one_text : (text : List ℕ) (id : Option (List ℕ)) → is_one_id (Some text) id ≡ has_text text id
one_text text None = refl
one_text text (Some other) = same_text text other

find_never : (rows : List StoredRow) → find (λ (x : StoredRow). false) rows ≡ None
find_never [] = refl
find_never (x ∷ xs) = find_never xs

same_twice : (columns : List Column) (o : Option StoredRow) → duplicate (option_map (λ (p : PlacedRow). p.row) (option_map (placed columns) o)) ≡ twice (option_map rowid_of o)
same_twice columns None = refl
same_twice columns (Some s) = refl

by_text : (rows : List StoredRow) (id : Option (List ℕ)) → twice (option_map rowid_of (find (λ x. is_one_id id x.id) rows)) ≡ taken_text id rows
by_text rows None = ap (λ (o : Option StoredRow). twice (option_map rowid_of o)) (find_never rows)
by_text rows (Some text) = ap (λ (o : Option StoredRow). twice (option_map rowid_of o))
    (find-alike (λ (x : StoredRow). is_one_id (Some text) x.id) (λ x. has_text text x.id) rows (each _ rows (λ x. one_text text x.id)))

pub taken_id-stored : (columns : List Column) (rowid : ℤ) (values : List Value) (rows : List StoredRow) → nat_lt 1 (count_of is_key columns) ≡ false → are_valid_values columns rowid values ≡ true →
    list_all (is_valid_row columns) (plain_rows (placed_rows columns rows)) ≡ true → AllByRecursion (GivesAgain columns) rows →
    taken_id columns (plain_rows (placed_rows columns rows)) values ≡ taken_text (id_in columns values) rows
taken_id-stored columns rowid values rows few valid all again =
    let id = id_in columns values in
    let test = λ (r : Row). is_one_id id (id_in columns r.values) in
    let first = find-same_id columns rowid values (plain_rows (placed_rows columns rows)) few valid all in
    let second = find-map (λ (p : PlacedRow). p.row) test (placed_rows columns rows) in
    let third = find-map (placed columns) (λ (p : PlacedRow). test p.row) rows in
    let fourth = find-alike (λ x. test (placed columns x).row) (λ x. is_one_id id x.id) rows
    (weaken (GivesAgain columns) (λ x. test (placed columns x).row ≡ is_one_id id x.id) rows (λ x same. ap (λ (s : StoredRow). is_one_id id s.id) same) again) in
    ap duplicate (first ∙ second ∙ ap (λ o. option_map (λ (p : PlacedRow). p.row) o) (third ∙ ap (λ o. option_map (placed columns) o) fourth))
    ∙ same_twice columns (find (λ x. is_one_id id x.id) rows)
    ∙ by_text rows id

pub has_rowid-stored : (columns : List Column) (i : ℤ) (rows : List StoredRow) → has_rowid i (plain_rows (placed_rows columns rows)) ≡ is_some (stored_of i rows)
has_rowid-stored columns i [] = refl
has_rowid-stored columns i (x ∷ xs) = by_key (int_eq x.rowid i) (has_rowid-stored columns i xs) where
  by_key : (t : Bool) → has_rowid i (plain_rows (placed_rows columns xs)) ≡ is_some (stored_of i xs) → (t || has_rowid i (plain_rows (placed_rows columns xs))) ≡ is_some {T = StoredRow} (cond t (Some x) (stored_of i xs))
  by_key true rest = refl
  by_key false rest = rest

-- what no refusal says: the rowid and the text are those of no row, and there is room
pub record IsWelcome (table : Table) (rowid : Option ℤ) (values : List Value) : Type 0 where
  pub free : taken_rowid table.rows rowid ≡ []
  pub alone : taken_id table.schema.columns table.rows (new_row table rowid values).values ≡ []
  pub left : spent table.top rowid ≡ []
  pub few : length table.rows + 1 ≤ MOST_ROWS

pub not-refused : (table : Table) (rowid : Option ℤ) (values : List Value) → insert_refusals table rowid values ≡ [] → IsWelcome table rowid values
not-refused table rowid values none =
    let a = taken_rowid table.rows rowid in
    let b = taken_id table.schema.columns table.rows (new_row table rowid values).values in
    let s = spent table.top rowid in
    let one = both_empty (a ++ b ++ s) (over_rows (length table.rows + 1)) none in
    let two = both_empty (a ++ b) s one.0 in
    let three = both_empty a b two.0 in
    record { free = three.0; alone = three.1; left = two.1; few = over_none ROWS_LIMIT MOST_ROWS (length table.rows + 1) (omega arith) one.1 }

pub none_twice : (o : Option Row) → duplicate o ≡ [] → o ≡ None
none_twice None h = refl
none_twice (Some row) h = absurd cc

-- what is shown of a row is there
pub shown_some : (i : ℤ) (rows : List StoredRow) (o : Option RowRef) → stored_of i rows ≡ option_map (shown i) o → is_some (stored_of i rows) ≡ is_some o
shown_some i rows o is = ap is_some is ∙ same_some i o where
  same_some : (i : ℤ) (o : Option RowRef) → is_some (option_map (shown i) o) ≡ is_some o
  same_some i None = refl
  same_some i (Some x) = refl

pub taken_rowid-stored : (columns : List Column) (rowid : Option ℤ) (rows : List StoredRow) → taken_rowid (plain_rows (placed_rows columns rows)) rowid ≡ given_taken rowid rows
taken_rowid-stored columns None rows = refl
taken_rowid-stored columns (Some i) rows = ap (λ (b : Bool). when b (Duplicate i)) (has_rowid-stored columns i rows)

-- A group of values that nothing refuses: its row fits the table, and the table's own call makes it.
use Rattle.std.proofs.Common.{◌≡◌, ℕ, ℤ, ◌+◌, ◌≤◌, Bool, true, false, List, [], ◌∷◌, ◌++◌, ◌∙◌, refl, sym, ap, ap₂, arith, length, Option, Some, None, Result, Ok, Err, OnOk, OnErr, IfErr, IfOk, inl, inr, ◌⊎◌}
use Rattle.std.specs.Prelude.{is_some, min, nat_lt}
use Rattle.std.specs.List.{AllByRecursion}
use Rattle.std.specs.Option.{option_map}
use Rattle.std.proofs.lemmas.Bool.{and_parts, and_from, cases_Bool, ltb-true}
use Rattle.vec_base.specs.declared.limits.TheConstants.{LAST_COUNT, MOST_ROWS, MOST_SIDE_BYTES, MOST_VECTOR_BYTES}
use Rattle.vec_base.specs.declared.refusal.Refusal.{Refusal}
use Rattle.vec_base.specs.declared.refusal.Refusal.TheVariants.{Full, WantOfMemory}
use Rattle.vec_base.specs.declared.value.Value.{Value}
use Rattle.vec_base.specs.declared.value.Value.TheVariants.{Null, Int, Text, Blob, Int8, Bits}
use Rattle.row_model.specs.Change.{Elsewhere, assigned, blank, given_rowid, group_refusals, keyed, keyed_value, last_rowid, long_values, new_row, put_all, room_refusals, rows_side_bytes, rows_vector_bytes, spent, taken_id, taken_rowid, with_new_row, with_rows, grown, or_grown}
use Rattle.row_model.specs.Limits.{over, over_rows, over_sides, over_vectors}
use Rattle.row_model.specs.RefusalOrder.{first, when}
use Rattle.row_model.specs.RepresentableStatements.{AreRepresentable}
use Rattle.row_model.specs.Check.{check_insert, insert_faults}
use Rattle.row_model.specs.WellFormed.{IsWellFormedInsert}
use Rattle.row_model.specs.declared.statement.Insert.{Insert}
use Rattle.row_model.specs.Valid.{are_valid_values, is_number, is_valid_row, is_valid_value, IsValidTable}
use Rattle.row_model.specs.Values.{row_side_bytes, row_vector_bytes}
use Rattle.row_model.specs.declared.limits.TheConstants.{ROWS_LIMIT, SIDE_BYTES_LIMIT, VECTOR_BYTES_LIMIT}
use Rattle.row_model.specs.declared.row.Row.{Row}
use Rattle.row_model.specs.declared.row.Table.{Table}
use Rattle.row_model.specs.declared.schema.Column.{Column}
use Rattle.row_model.specs.declared.schema.Kind.{Kind}
use Rattle.row_model.specs.declared.schema.Kind.TheVariants.{IntKey, TextKey, Int8Vector, BitVector, IntPartition, TextPartition, IntMeta, TextMeta, BoolMeta, IntAux, TextAux, BlobAux}
use Rattle.row_model.specs.declared.schema.Place.{Place}
use Rattle.row_model.proofs.SelectLaws.{both_empty, least_none}
use Rattle.row_model.proofs.ValidityInserts.{HasRoom, IsGroup, grown_valid, insertable}
use Rattle.row_model.proofs.ValidityRows.{over_none}
use Rattle.row_chunks.specs.Cells.{is_cell_value}
use Rattle.shadow_records.specs.PlacedTables.{IsPlaced, PlacedRow, PlacedTable, plain, plain_rows}
use Rattle.table_version.specs.Inserting.{IsInserted, are_fitting, insert_refusals, new_row as row_made}
use Rattle.table_version.specs.Viewed.{ViewedRow}
use Rattle.table_version.proofs.PlacedLaws.{plain-with}
use Rattle.table_writes.specs.Writing.{places_named}
use Rattle.table_writes.specs.inner.TakenGroups.{IsStoredPlace, IsTakenGroup, refusals_of}
use Rattle.table_writes.proofs.RefusalLaws.{none_empty}

-- a row that is shown is there
pub shown_some : (rows_of : Option PlacedRow) (o : Option ViewedRow) → rows_of ≡ option_map (λ (view : ViewedRow). view.placed) o → is_some rows_of ≡ is_some o
shown_some rows_of o is = ap is_some is ∙ same o where
  same : (o : Option ViewedRow) → is_some (option_map (λ (view : ViewedRow). view.placed) o) ≡ is_some o
  same None = refl
  same (Some view) = refl

-- ---- values that fit

number_fits : (rowid : ℤ) (value : Value) → is_number rowid value ≡ true → is_cell_value IntKey value ≡ true
number_fits rowid (Int n) h = refl
number_fits rowid Null h = absurd cc
number_fits rowid (Text text) h = absurd cc
number_fits rowid (Blob bytes) h = absurd cc
number_fits rowid (Int8 vector) h = absurd cc
number_fits rowid (Bits vector) h = absurd cc

value_fits : (kind : Kind) (rowid : ℤ) (value : Value) → is_valid_value kind rowid value ≡ true → is_cell_value kind value ≡ true
value_fits IntKey rowid value h = number_fits rowid value h
value_fits TextKey rowid value h = h
value_fits (Int8Vector width metric) rowid value h = h
value_fits (BitVector width) rowid value h = h
value_fits IntPartition rowid value h = h
value_fits TextPartition rowid value h = h
value_fits IntMeta rowid value h = h
value_fits TextMeta rowid value h = h
value_fits BoolMeta rowid value h = h
value_fits IntAux rowid value h = h
value_fits TextAux rowid value h = h
value_fits BlobAux rowid value h = h

values_fit : (columns : List Column) (rowid : ℤ) (values : List Value) → are_valid_values columns rowid values ≡ true → are_fitting columns values ≡ true
values_fit [] rowid [] h = refl
values_fit [] rowid (v ∷ vs) h = absurd cc
values_fit (column ∷ columns) rowid [] h = absurd cc
values_fit (column ∷ columns) rowid (v ∷ vs) h =
    let parts = and_parts (is_valid_value column.kind rowid v) (are_valid_values columns rowid vs) h in
    and_from _ _ (value_fits column.kind rowid v parts.0) (values_fit columns rowid vs parts.1)

keyed_one : (kind : Kind) (rowid : ℤ) (value : Value) → keyed_value kind rowid (keyed_value kind rowid value) ≡ keyed_value kind rowid value
keyed_one IntKey rowid value = refl
keyed_one TextKey rowid value = refl
keyed_one (Int8Vector width metric) rowid value = refl
keyed_one (BitVector width) rowid value = refl
keyed_one IntPartition rowid value = refl
keyed_one TextPartition rowid value = refl
keyed_one IntMeta rowid value = refl
keyed_one TextMeta rowid value = refl
keyed_one BoolMeta rowid value = refl
keyed_one IntAux rowid value = refl
keyed_one TextAux rowid value = refl
keyed_one BlobAux rowid value = refl

keyed_twice : (columns : List Column) (rowid : ℤ) (values : List Value) → keyed columns rowid (keyed columns rowid values) ≡ keyed columns rowid values
keyed_twice [] rowid values = refl
keyed_twice (column ∷ columns) rowid [] = refl
keyed_twice (column ∷ columns) rowid (v ∷ vs) = ap₂ (λ (b : Value) (bs : List Value). b ∷ bs) (keyed_one column.kind rowid v) (keyed_twice columns rowid vs)

-- ---- the row of a group

-- each of what could refuse the row
record IsWelcome (other : Elsewhere) (table : Table) (places : List Place) (given : List Value) : Type 0 where
  free : taken_rowid table.rows (given_rowid places given) ≡ []
  alone : taken_id table.schema.columns table.rows (new_row table places given).values ≡ []
  left : spent table.top (given_rowid places given) ≡ []
  short : long_values given ≡ []
  few : over_rows (length table.rows + 1) ≡ []
  vectors : row_vector_bytes (new_row table places given) ≤ MOST_VECTOR_BYTES
  sides : row_side_bytes (new_row table places given) ≤ MOST_SIDE_BYTES

welcome : (other : Elsewhere) (table : Table) (places : List Place) (given : List Value) → group_refusals other table places given ≡ [] → IsWelcome other table places given
welcome other table places given none =
    let rowid = given_rowid places given in
    let row = new_row table places given in
    let a = taken_rowid table.rows rowid in
    let b = taken_id table.schema.columns table.rows row.values in
    let s = spent table.top rowid in
    let v = long_values given in
    let r = over_rows (length table.rows + 1) in
    let vectors = over_vectors (other.vectors + rows_vector_bytes table.rows + row_vector_bytes row) in
    let sides = over_sides (other.sides + rows_side_bytes table.rows + row_side_bytes row) in
    let one = both_empty (a ++ b ++ s ++ v) (room_refusals other table.rows row) none in
    let two = both_empty (a ++ b ++ s) v one.0 in
    let three = both_empty (a ++ b) s two.0 in
    let four = both_empty a b three.0 in
    let rest = both_empty (r ++ vectors) sides one.1 in
    let firsts = both_empty r vectors rest.0 in
    let wide = over_none VECTOR_BYTES_LIMIT MOST_VECTOR_BYTES (other.vectors + rows_vector_bytes table.rows + row_vector_bytes row) (omega arith) firsts.1 in
    let long = over_none SIDE_BYTES_LIMIT MOST_SIDE_BYTES (other.sides + rows_side_bytes table.rows + row_side_bytes row) (omega arith) rest.1 in
    record { free = four.0; alone = four.1; left = three.1; short = two.1; few = firsts.0; vectors = omega (arith, wide); sides = omega (arith, long) }

-- an empty table beside no other takes the same row
abbrev nowhere : Elsewhere
nowhere = record { vectors = 0; sides = 0 }

abbrev emptied : Table → Table
emptied table = with_rows table []

emptied_room : (table : Table) → IsValidTable table → HasRoom nowhere (emptied table)
emptied_room table valid = record {
  valid = record {
    schema = valid.schema;
    values = refl;
    rising = refl;
    own_ids = refl;
    from_zero = valid.from_zero;
    topped = refl;
    few = refl;
    representable = tt;
    last = valid.last;
  };
  vectors = omega arith;
  sides = omega arith;
}

none_taken : (rowid : Option ℤ) → taken_rowid [] rowid ≡ []
none_taken None = refl
none_taken (Some i) = refl

not_above : (most m : ℕ) → m ≤ most → nat_lt most m ≡ false
not_above most m low = elim (cases_Bool (nat_lt most m)) [
  | inl above ↦ (let high = ltb-true most m above in absurd (omega (arith, high, low)))
  | inr below ↦ below
]

not_over : (limit most n : ℕ) → n ≤ most → over limit most n ≡ []
not_over limit most n low = ap (λ (b : Bool). when b (Full limit (min n LAST_COUNT))) (not_above most (min n LAST_COUNT) (omega (arith, low)))

all_empty : (a b s v r w x : List Refusal) → a ≡ [] → b ≡ [] → s ≡ [] → v ≡ [] → r ≡ [] → w ≡ [] → x ≡ [] → a ++ b ++ s ++ v ++ (r ++ w ++ x) ≡ []
all_empty a b s v r w x ea eb es ev er ew ex = rw (ea, eb, es, ev, er, ew, ex) refl

emptied_takes : (other : Elsewhere) (table : Table) (places : List Place) (given : List Value) → IsWelcome other table places given → group_refusals nowhere (emptied table) places given ≡ []
emptied_takes other table places given is =
    let row = new_row table places given in
    all_empty (taken_rowid [] (given_rowid places given)) (taken_id table.schema.columns [] row.values) (spent table.top (given_rowid places given)) (long_values given)
    (over_rows (length (emptied table).rows + 1)) (over_vectors (0 + rows_vector_bytes [] + row_vector_bytes row)) (over_sides (0 + rows_side_bytes [] + row_side_bytes row))
    (none_taken (given_rowid places given)) refl is.left is.short (not_over ROWS_LIMIT MOST_ROWS 1 (omega arith))
    (not_over VECTOR_BYTES_LIMIT MOST_VECTOR_BYTES (0 + 0 + row_vector_bytes row) (omega (arith, is.vectors))) (not_over SIDE_BYTES_LIMIT MOST_SIDE_BYTES (0 + 0 + row_side_bytes row) (omega (arith, is.sides)))

-- the row of a group that nothing refuses is a valid one
row_valid : (other : Elsewhere) (table : Table) (places : List Place) (given : List Value) → IsValidTable table → AllByRecursion (IsStoredPlace table.schema.columns) places → IsTakenGroup table.schema.columns places given →
    group_refusals other table places given ≡ [] → is_valid_row table.schema.columns (new_row table places given) ≡ true
row_valid other table places given valid listed group none =
    let taken = emptied_takes other table places given (welcome other table places given none) in
    let new = with_new_row (emptied table) (new_row table places given) in
    let made : grown nowhere places (emptied table) (given ∷ []) ≡ Ok new = ap (λ (refusals : List Refusal). or_grown (first refusals) (Ok new)) taken in
    let fine : IsGroup table.schema.columns places given = record { one_each = group.one_each; faultless = group.faultless; representable = group.representable } in
    let room = grown_valid nowhere places (emptied table) new (given ∷ []) (emptied_room table valid) listed (fine, tt) made in
    (and_parts (is_valid_row table.schema.columns (new_row table places given)) true room.valid.values).0

-- ---- what the code knows of a group

-- values that were looked at and that nothing refuses
pub record IsReady (other : Elsewhere) (table : PlacedTable) (places : List Place) (given : List Value) (rowid : Option ℤ) (values : List Value) : Type 0 where
  pub none : group_refusals other (plain table) places given ≡ []
  pub fits : are_fitting table.schema.columns values ≡ true
  pub clear : insert_refusals (plain table) rowid values ≡ []
  pub made : row_made (plain table) rowid values ≡ new_row (plain table) places given

all_clear : (a b s r : List Refusal) → a ≡ [] → b ≡ [] → s ≡ [] → r ≡ [] → a ++ b ++ s ++ r ≡ []
all_clear a b s r ea eb es er = rw (ea, eb, es, er) refl

-- where these are the rowid and the values of the group's row
same_refusals : (other : Elsewhere) (table : Table) (places : List Place) (given : List Value) (rowid : Option ℤ) (values : List Value) → rowid ≡ given_rowid places given → values ≡ (new_row table places given).values →
    refusals_of other table rowid values given ≡ group_refusals other table places given
same_refusals other table places given rowid values r v = ap₂ (λ (i : Option ℤ) (vs : List Value). refusals_of other table i vs given) r v

made_again : (table : Table) (places : List Place) (given : List Value) (rowid : Option ℤ) (values : List Value) → rowid ≡ given_rowid places given → values ≡ (new_row table places given).values →
    row_made table rowid values ≡ new_row table places given
made_again table places given rowid values r v =
    ap₂ (λ (i : Option ℤ) (vs : List Value). row_made table i vs) r v
    ∙ ap (λ (vs : List Value). row_of_values vs) (keyed_twice table.schema.columns (assigned table.top (given_rowid places given)) (put_all places given (blank table.schema.columns)))
  where
    row_of_values : List Value → Row
    row_of_values vs = record { rowid = assigned table.top (given_rowid places given); values = vs }

pub ready : (other : Elsewhere) (table : PlacedTable) (places : List Place) (given : List Value) (rowid : Option ℤ) (values : List Value) → IsPlaced table → AllByRecursion (IsStoredPlace table.schema.columns) places →
    IsTakenGroup table.schema.columns places given → rowid ≡ given_rowid places given → values ≡ (new_row (plain table) places given).values →
    first (refusals_of other (plain table) rowid values given) ≡ None → IsReady other table places given rowid values
ready other table places given rowid values placed listed group r v none =
    let empty = sym (same_refusals other (plain table) places given rowid values r v) ∙ none_empty (refusals_of other (plain table) rowid values given) none in
    let is = welcome other (plain table) places given empty in
    let again = made_again (plain table) places given rowid values r v in
    let valid = row_valid other (plain table) places given placed.valid listed group empty in
    record {
      none = empty;
      fits = ap (are_fitting table.schema.columns) v ∙ values_fit table.schema.columns (new_row (plain table) places given).rowid (new_row (plain table) places given).values valid;
      clear = all_clear (taken_rowid (plain_rows table.rows) rowid) (taken_id table.schema.columns (plain_rows table.rows) (row_made (plain table) rowid values).values) (spent table.top rowid)
          (over_rows (length (plain_rows table.rows) + 1))
          (ap (taken_rowid (plain_rows table.rows)) r ∙ is.free) (ap (λ (row : Row). taken_id table.schema.columns (plain_rows table.rows) row.values) again ∙ is.alone)
          (ap (spent table.top) r ∙ is.left) is.few;
      made = again;
    }

-- a refusal of the code is one of the group
pub group_refused : (other : Elsewhere) (table : PlacedTable) (places : List Place) (given : List Value) (rowid : Option ℤ) (values : List Value) (refusal : Refusal) → rowid ≡ given_rowid places given →
    values ≡ (new_row (plain table) places given).values → first (refusals_of other (plain table) rowid values given) ≡ Some refusal → first (group_refusals other (plain table) places given) ≡ Some refusal
group_refused other table places given rowid values refusal r v some = sym (ap first (same_refusals other (plain table) places given rowid values r v)) ∙ some

-- ---- what the call makes

-- where nothing refuses the values, only memory can be wanted
pub memory_alone : (table : PlacedTable) (rowid : Option ℤ) (values : List Value) (result : Result ℤ Refusal) → insert_refusals (plain table) rowid values ≡ [] →
    IfErr result (λ refusal. (first (insert_refusals (plain table) rowid values) ≡ Some refusal) ⊎ (refusal ≡ WantOfMemory)) → IfErr result (λ refusal. refusal ≡ WantOfMemory)
memory_alone table rowid values (Ok made) clear told = tt
memory_alone table rowid values (Err refusal) clear (inl some) = let none : first (insert_refusals (plain table) rowid values) ≡ None = ap first clear in absurd cc
memory_alone table rowid values (Err refusal) clear (inr memory) = memory

pub refused_by_memory : (other : Elsewhere) (table : PlacedTable) (places : List Place) (given : List Value) (result : Result ℤ Refusal) → IfErr result (λ refusal. refusal ≡ WantOfMemory) →
    IfErr result (λ refusal. (first (group_refusals other (plain table) places given) ≡ Some refusal) ⊎ (refusal ≡ WantOfMemory))
refused_by_memory other table places given (Ok made) told = tt
refused_by_memory other table places given (Err refusal) told = inr told

pub plain_inserted : (old new : PlacedTable) (row : Row) → IsInserted old new row → plain new ≡ with_new_row (plain old) row
plain_inserted old new row is =
    ap plain is.table ∙ ap (λ (rows : List Row). with_rows (with_new_row (plain old) row) rows) (plain-with (record { row = row; chunk = _; slot = _ }) old.rows)

pub inserted_name : (old new : PlacedTable) (row : Row) (result : Result ℤ Refusal) → OnErr result (new ≡ old) → OnOk result (IsInserted old new row) → new.name ≡ old.name
inserted_name old new row (Ok made) kept inserted = ap (λ (t : PlacedTable). t.name) inserted.table
inserted_name old new row (Err refusal) kept inserted = ap (λ (t : PlacedTable). t.name) kept

pub inserted_schema : (old new : PlacedTable) (row : Row) (result : Result ℤ Refusal) → OnErr result (new ≡ old) → OnOk result (IsInserted old new row) → new.schema ≡ old.schema
inserted_schema old new row (Ok made) kept inserted = ap (λ (t : PlacedTable). t.schema) inserted.table
inserted_schema old new row (Err refusal) kept inserted = ap (λ (t : PlacedTable). t.schema) kept

pub inserted_row : (other : Elsewhere) (old new : PlacedTable) (places : List Place) (given : List Value) (rowid : Option ℤ) (values : List Value) (result : Result ℤ Refusal) → IsReady other old places given rowid values →
    OnOk result (IsInserted old new (row_made (plain old) rowid values)) → OnOk result (plain new ≡ with_new_row (plain old) (new_row (plain old) places given))
inserted_row other old new places given rowid values (Err refusal) is inserted = tt
inserted_row other old new places given rowid values (Ok made) is inserted = plain_inserted old new (row_made (plain old) rowid values) inserted ∙ ap (with_new_row (plain old)) is.made

pub inserted_rowid : (other : Elsewhere) (old : PlacedTable) (places : List Place) (given : List Value) (rowid : Option ℤ) (values : List Value) (result : Result ℤ Refusal) → IsReady other old places given rowid values →
    IfOk result (λ made. made ≡ assigned old.top rowid) → IfOk result (λ made. made ≡ (new_row (plain old) places given).rowid)
inserted_rowid other old places given rowid values (Err refusal) is told = tt
inserted_rowid other old places given rowid values (Ok made) is told = told ∙ ap (λ (row : Row). row.rowid) is.made

-- ---- one group after another

pub grown_refused : (other : Elsewhere) (places : List Place) (table : Table) (given : List Value) (more : List (List Value)) (refusal : Refusal) → first (group_refusals other table places given) ≡ Some refusal →
    grown other places table (given ∷ more) ≡ Err refusal
grown_refused other places table given more refusal some =
    ap (λ (o : Option Refusal). or_grown o (grown other places (with_new_row table (new_row table places given)) more)) some

pub grown_next : (other : Elsewhere) (places : List Place) (table : Table) (given : List Value) (more : List (List Value)) → first (group_refusals other table places given) ≡ None →
    grown other places table (given ∷ more) ≡ grown other places (with_new_row table (new_row table places given)) more
grown_next other places table given more none =
    ap (λ (o : Option Refusal). or_grown o (grown other places (with_new_row table (new_row table places given)) more)) none

pub last_next : (last : ℤ) (places : List Place) (table : Table) (given : List Value) (more : List (List Value)) →
    last_rowid last places table (given ∷ more) ≡ last_rowid (new_row table places given).rowid places (with_new_row table (new_row table places given)) more
last_next last places table given more = refl

-- ---- what the checks of the INSERT say

taken_groups : (columns : List Column) (places : List Place) (rows : List (List Value)) → AllByRecursion (IsGroup columns places) rows → AllByRecursion (IsTakenGroup columns places) rows
taken_groups columns places [] all = tt
taken_groups columns places (row ∷ rows) all =
    (record { one_each = all.0.one_each; faultless = all.0.faultless; representable = all.0.representable }, taken_groups columns places rows all.1)

pub record AreTaken (columns : List Column) (insert : Insert) : Type 0 where
  pub listed : AllByRecursion (IsStoredPlace columns) (places_named columns insert.columns)
  pub groups : AllByRecursion (IsTakenGroup columns (places_named columns insert.columns)) insert.rows

pub checked_groups : (columns : List Column) (insert : Insert) → check_insert columns insert ≡ None → IsWellFormedInsert insert → AllByRecursion AreRepresentable insert.rows → AreTaken columns insert
checked_groups columns insert none formed held =
    let fine = insertable columns insert (least_none (insert_faults columns insert) none) formed.one_value_each held in
    record { listed = fine.listed; groups = taken_groups columns (places_named columns insert.columns) insert.rows fine.groups }

-- What refuses a new row, as the table is looked up: a rowid and a text id that are there.
use Rattle.std.proofs.Common.{◌≡◌, ℕ, ℤ, ◌+◌, ◌≤◌, Bool, true, false, cond, List, [], ◌∷◌, ◌++◌, ◌∙◌, refl, sym, ap, ap₂, arith, length, Option, Some, None}
use Rattle.std.specs.Prelude.{◌||◌, ◌&&◌, find, is_some, nat_lt, sum_by, if◌then◌else◌}
use Rattle.std.specs.Option.{option_map, option_or}
use Rattle.std.specs.Ordering.{int_eq}
use Rattle.std.proofs.lemmas.Bool.{ltb-false}
use Rattle.vec_base.specs.declared.limits.TheConstants.{MOST_ROWS, MOST_SIDE_BYTES, MOST_VECTOR_BYTES}
use Rattle.vec_base.specs.declared.refusal.Refusal.{Refusal}
use Rattle.vec_base.specs.declared.refusal.Refusal.TheVariants.{Duplicate}
use Rattle.vec_base.specs.declared.value.Value.{Value}
use Rattle.vec_base.specs.declared.value.Value.TheVariants.{Null, Int, Text, Blob, Int8, Bits}
use Rattle.row_model.specs.Change.{Elsewhere, duplicate, is_same_text, long_values, room_refusals, rows_side_bytes, rows_vector_bytes, same_id, spent, taken_id, taken_rowid}
use Rattle.row_model.specs.ColumnNames.{has_text_key, is_text_key}
use Rattle.row_model.specs.Limits.{over_rows, over_sides, over_vectors}
use Rattle.row_model.specs.RefusalOrder.{first, when}
use Rattle.row_model.specs.Rows.{has_rowid}
use Rattle.row_model.specs.Schemas.{count_of, is_key}
use Rattle.row_model.specs.Values.{side_bytes, vector_bytes}
use Rattle.row_model.specs.declared.limits.TheConstants.{ROWS_LIMIT, SIDE_BYTES_LIMIT, VECTOR_BYTES_LIMIT}
use Rattle.row_model.specs.declared.row.Row.{Row}
use Rattle.row_model.specs.declared.schema.Column.{Column}
use Rattle.row_model.proofs.BoolLaws.{or_first, or_second}
use Rattle.row_model.proofs.ValidityRows.{name_sym}
use Rattle.row_store.specs.StoredRows.{has_text}
use Rattle.shadow_records.specs.PlacedTables.{PlacedRow, PlacedTable, plain, plain_rows, row_of}
use Rattle.table_version.specs.Kept.{id_in, is_one_id, text_in}
use Rattle.table_version.specs.Versions.{row_with_id, rowid_in}
use Rattle.table_version.proofs.WeavingLaws.{fewer_keys, no_id_behind}
use Rattle.table_writes.specs.inner.Capped.{capped}
use Rattle.table_writes.specs.inner.TakenGroups.{given_taken, refusals_of, some_row, taken_text, twice}
use Rattle.table_writes.proofs.TotalLaws.{over_capped, three}

-- ---- the first of several

pub first-append : (xs ys : List Refusal) → first (xs ++ ys) ≡ option_or (first xs) (first ys)
first-append [] ys = refl
first-append (x ∷ xs) ys = refl

pub none_empty : (xs : List Refusal) → first xs ≡ None → xs ≡ []
none_empty [] h = refl
none_empty (x ∷ xs) h = absurd cc

pub first_of_five : (a b c d e : List Refusal) →
    option_or (option_or (option_or (option_or (first a) (first b)) (first c)) (first d)) (first e) ≡ first (a ++ b ++ c ++ d ++ e)
first_of_five a b c d e =
    sym (first-append (a ++ b ++ c ++ d) e
    ∙ ap (λ z. option_or z (first e)) (first-append (a ++ b ++ c) d
    ∙ ap (λ z. option_or z (first d)) (first-append (a ++ b) c ∙ ap (λ z. option_or z (first c)) (first-append a b))))

pub first_of_three : (a b c : List Refusal) → option_or (option_or (first a) (first b)) (first c) ≡ first (a ++ b ++ c)
first_of_three a b c = sym (first-append (a ++ b) c ∙ ap (λ z. option_or z (first c)) (first-append a b))

-- ---- room

-- counts that saturate are refused as the counts are
pub room_is : (other : Elsewhere) (rows : List Row) (values : List Value) (count vectors sides : ℕ) → count ≡ capped (length rows + 1) →
    vectors ≡ capped (capped (other.vectors + rows_vector_bytes rows) + capped (sum_by vector_bytes values)) → sides ≡ capped (capped (other.sides + rows_side_bytes rows) + capped (sum_by side_bytes values)) →
    option_or (option_or (first (over_rows count)) (first (over_vectors vectors))) (first (over_sides sides)) ≡ first (room_refusals other rows (some_row values))
room_is other rows values count vectors sides c v s =
    let wide = v ∙ three other.vectors (rows_vector_bytes rows) (sum_by vector_bytes values) in
    let long = s ∙ three other.sides (rows_side_bytes rows) (sum_by side_bytes values) in
    let first_is : over_rows count ≡ over_rows (length rows + 1) = ap over_rows c ∙ over_capped ROWS_LIMIT MOST_ROWS (length rows + 1) in
    let second_is : over_vectors vectors ≡ over_vectors (other.vectors + rows_vector_bytes rows + sum_by vector_bytes values) =
    ap over_vectors wide ∙ over_capped VECTOR_BYTES_LIMIT MOST_VECTOR_BYTES (other.vectors + rows_vector_bytes rows + sum_by vector_bytes values) in
    let third_is : over_sides sides ≡ over_sides (other.sides + rows_side_bytes rows + sum_by side_bytes values) =
    ap over_sides long ∙ over_capped SIDE_BYTES_LIMIT MOST_SIDE_BYTES (other.sides + rows_side_bytes rows + sum_by side_bytes values) in
    ap₂ (λ (a b : List Refusal). option_or (option_or (first a) (first b)) (first (over_sides sides))) first_is second_is
    ∙ ap (λ (a : List Refusal). option_or (option_or (first (over_rows (length rows + 1))) (first (over_vectors (other.vectors + rows_vector_bytes rows + sum_by vector_bytes values)))) (first a)) third_is
    ∙ first_of_three (over_rows (length rows + 1)) (over_vectors (other.vectors + rows_vector_bytes rows + sum_by vector_bytes values)) (over_sides (other.sides + rows_side_bytes rows + sum_by side_bytes values))

-- ---- a rowid

has_rowid-placed : (i : ℤ) (ps : List PlacedRow) → has_rowid i (plain_rows ps) ≡ is_some (row_of ps i)
has_rowid-placed i [] = refl
has_rowid-placed i (p ∷ ps) = by_key (int_eq p.row.rowid i) (has_rowid-placed i ps) where
  by_key : (b : Bool) → has_rowid i (plain_rows ps) ≡ is_some (row_of ps i) → (b || has_rowid i (plain_rows ps)) ≡ is_some {T = PlacedRow} (cond b (Some p) (row_of ps i))
  by_key true rest = refl
  by_key false rest = rest

pub taken_rowid-placed : (rowid : Option ℤ) (ps : List PlacedRow) → taken_rowid (plain_rows ps) rowid ≡ given_taken rowid ps
taken_rowid-placed None ps = refl
taken_rowid-placed (Some i) ps = ap (λ (b : Bool). when b (Duplicate i)) (has_rowid-placed i ps)

-- ---- a text id

no_id : (columns : List Column) (us vs : List Value) → has_text_key columns ≡ false → same_id columns us vs ≡ false
no_id [] us vs h = refl
no_id (column ∷ columns) [] vs h = refl
no_id (column ∷ columns) (u ∷ us) [] h = refl
no_id (column ∷ columns) (u ∷ us) (v ∷ vs) h =
    let key = or_first (is_text_key column.kind) (has_text_key columns) h in
    let rest = no_id columns us vs (or_second (is_text_key column.kind) (has_text_key columns) h) in
    ap₂ (λ (a b : Bool). (a && is_same_text u v) || b) key rest

text_same : (u v : Value) → is_same_text u v ≡ is_one_id (text_in u) (text_in v)
text_same (Text a) (Text b) = refl
text_same (Text a) Null = refl
text_same (Text a) (Int n) = refl
text_same (Text a) (Blob bytes) = refl
text_same (Text a) (Int8 vector) = refl
text_same (Text a) (Bits vector) = refl
text_same Null v = refl
text_same (Int n) v = refl
text_same (Blob bytes) v = refl
text_same (Int8 vector) v = refl
text_same (Bits vector) v = refl

no_other : (o : Option (List ℕ)) → false ≡ is_one_id o None
no_other None = refl
no_other (Some a) = refl

or_none : (a b : Bool) → b ≡ false → (a || b) ≡ a
or_none true b h = refl
or_none false b h = h

-- with one key at most, the values have one text id where their texts are one
same_ids : (columns : List Column) (us vs : List Value) → count_of is_key columns ≤ 1 → same_id columns us vs ≡ is_one_id (id_in columns us) (id_in columns vs)
same_ids [] us vs few = refl
same_ids (column ∷ columns) [] vs few = refl
same_ids (column ∷ columns) (u ∷ us) [] few = no_other (id_in (column ∷ columns) (u ∷ us))
same_ids (column ∷ columns) (u ∷ us) (v ∷ vs) few = by_key (is_text_key column.kind) refl (same_ids columns us vs (fewer_keys column columns few)) where
  by_key : (b : Bool) → is_text_key column.kind ≡ b → same_id columns us vs ≡ is_one_id (id_in columns us) (id_in columns vs) →
      ((b && is_same_text u v) || same_id columns us vs) ≡ is_one_id (if b then text_in u else id_in columns us) (if b then text_in v else id_in columns vs)
  by_key true e rest = or_none (is_same_text u v) (same_id columns us vs) (no_id columns us vs (no_id_behind column columns few e)) ∙ text_same u v
  by_key false e rest = rest

find_map : (test : Row → Bool) (ps : List PlacedRow) → find test (plain_rows ps) ≡ option_map (λ (p : PlacedRow). p.row) (find (λ (p : PlacedRow). test p.row) ps)
find_map test [] = refl
find_map test (p ∷ ps) = by_test (test p.row) (find_map test ps) where
  by_test : (b : Bool) → find test (plain_rows ps) ≡ option_map (λ (q : PlacedRow). q.row) (find (λ (q : PlacedRow). test q.row) ps) →
      cond b (Some p.row) (find test (plain_rows ps)) ≡ option_map (λ (q : PlacedRow). q.row) (cond b (Some p) (find (λ (q : PlacedRow). test q.row) ps))
  by_test true rest = refl
  by_test false rest = rest

find_alike : (a b : PlacedRow → Bool) (ps : List PlacedRow) → ((p : PlacedRow) → a p ≡ b p) → find a ps ≡ find b ps
find_alike a b [] same = refl
find_alike a b (p ∷ ps) same = ap₂ (λ (t : Bool) (o : Option PlacedRow). cond t (Some p) o) (same p) (find_alike a b ps same)

find_never : (ps : List PlacedRow) → find (λ (p : PlacedRow). false) ps ≡ None
find_never [] = refl
find_never (p ∷ ps) = find_never ps

one_text : (text : List ℕ) (o : Option (List ℕ)) → is_one_id (Some text) o ≡ has_text text o
one_text text None = refl
one_text text (Some other) = name_sym text other

by_text : (columns : List Column) (id : Option (List ℕ)) (ps : List PlacedRow) →
    duplicate (option_map (λ (p : PlacedRow). p.row) (find (λ (p : PlacedRow). is_one_id id (id_in columns p.row.values)) ps)) ≡ taken_text columns id ps
by_text columns None ps = ap (λ (o : Option PlacedRow). duplicate (option_map (λ (p : PlacedRow). p.row) o)) (find_never ps)
by_text columns (Some text) ps =
    ap (λ (o : Option PlacedRow). duplicate (option_map (λ (p : PlacedRow). p.row) o))
    (find_alike (λ p. is_one_id (Some text) (id_in columns p.row.values)) (λ p. has_text text (id_in columns p.row.values)) ps (λ p. one_text text (id_in columns p.row.values)))
    ∙ of_row (row_with_id columns text ps)
  where
    of_row : (o : Option PlacedRow) → duplicate (option_map (λ (p : PlacedRow). p.row) o) ≡ twice (option_map rowid_in o)
    of_row None = refl
    of_row (Some p) = refl

pub taken_id-placed : (columns : List Column) (values : List Value) (ps : List PlacedRow) → nat_lt 1 (count_of is_key columns) ≡ false →
    taken_id columns (plain_rows ps) values ≡ taken_text columns (id_in columns values) ps
taken_id-placed columns values ps few =
    let keys = ltb-false 1 (count_of is_key columns) few in
    ap duplicate (find_map (λ (r : Row). same_id columns values r.values) ps
    ∙ ap (λ (o : Option PlacedRow). option_map (λ (p : PlacedRow). p.row) o)
    (find_alike (λ p. same_id columns values p.row.values) (λ p. is_one_id (id_in columns values) (id_in columns p.row.values)) ps (λ p. same_ids columns values p.row.values (omega (arith, keys)))))
    ∙ by_text columns (id_in columns values) ps

-- ---- a row

pub row_refused : (other : Elsewhere) (table : PlacedTable) (rowid : Option ℤ) (values given : List Value) →
    option_or (option_or (option_or (option_or (first (given_taken rowid table.rows)) (first (taken_id table.schema.columns (plain_rows table.rows) values))) (first (spent table.top rowid))) (first (long_values given)))
    (first (room_refusals other (plain_rows table.rows) (some_row values))) ≡ first (refusals_of other (plain table) rowid values given)
row_refused other table rowid values given =
    let taken = taken_id table.schema.columns (plain_rows table.rows) values in
    let room = room_refusals other (plain_rows table.rows) (some_row values) in
    ap (λ (a : List Refusal). option_or (option_or (option_or (option_or (first a) (first taken)) (first (spent table.top rowid))) (first (long_values given))) (first room)) (sym (taken_rowid-placed rowid table.rows))
    ∙ first_of_five (taken_rowid (plain_rows table.rows) rowid) taken (spent table.top rowid) (long_values given) room

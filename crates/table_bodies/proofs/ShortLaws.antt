-- The body of a record of a sound table is short.
use Rattle.std.proofs.Common.{◌≡◌, ℕ, zero, suc, ◌+◌, ◌*◌, ◌/◌, ◌≤◌, ◌==◌, ℤ, pos, negsuc, List, [], ◌∷◌, ◌++◌, length, get_or, cond, Bool, true, false, not, ◌&&◌, ◌||◌, nat_le, nat_lt, flat_map, refl, sym, subst, arith, length-append}
use Rattle.std.specs.Prelude.{if◌then◌else◌, IfSome, ⊤}
use Rattle.std.specs.declared.option.Option.{Option}
use Rattle.std.specs.declared.option.Option.TheVariants.{Some, None}
use Rattle.std.specs.Int.{to_le_bytes, w16, w32}
use Rattle.std.specs.List.{find}
use Rattle.std.specs.Option.{option_map}
use Rattle.std.specs.Ordering.{int_eq}
use Rattle.std.proofs.lemmas.Bool.{and_parts, false≢true, leb-true}
use Rattle.vec_base.specs.Words.{is_small_word, is_name, is_reserved}
use Rattle.vec_base.specs.declared.limits.TheConstants.{MOST_VALUE_BYTES}
use Rattle.vec_base.specs.declared.shadow.ShadowKey.{ShadowKey}
use Rattle.vec_base.specs.declared.value.Value.{Value}
use Rattle.vec_base.specs.declared.value.Value.TheVariants.{Null, Int, Text, Blob, Int8, Bits}
use Rattle.row_model.proofs.SchemaLaws.{few_columns}
use Rattle.row_model.specs.Schemas.{is_vector, is_partition, is_metadata, is_auxiliary}
use Rattle.row_model.specs.Valid.{is_number, is_fitting, is_valid_value, are_valid_values}
use Rattle.row_model.specs.Values.{is_null, is_of_kind, is_shaped, side_bytes}
use Rattle.row_model.specs.declared.schema.Column.{Column}
use Rattle.row_model.specs.declared.schema.Kind.{Kind}
use Rattle.row_model.specs.declared.schema.Kind.TheVariants.{IntKey, TextKey, Int8Vector, BitVector, IntPartition, TextPartition, IntMeta, TextMeta, BoolMeta, IntAux, TextAux, BlobAux}
use Rattle.shadow_keeper.specs.declared.keeper.TheConstants.{MOST_CHANGE_BYTES}
use Rattle.shadow_records.specs.Cells.{laid, bitmap, of_bits, partition_value_bytes, long_text, side_body}
use Rattle.shadow_records.specs.PlacedTables.{PlacedRow, PlacedTable, IsPlaced, row_at, row_of, first_in, value_in, partition_of}
use Rattle.shadow_records.specs.Records.{ColumnAt, nth_column, id_of, id_bytes, slot_cell, is_used, rowid_cell, slot_bit, info_body, chunk_body, place_body, cells_body, value_body, is_bits_column, at_zero, column_at, of_first, of_chunk, body_of}
use Rattle.record_bodies.proofs.SchemaLaws.{fits_chunks}
use Rattle.vec0_columns.proofs.Lengths.{canonical_short}
use Rattle.row_model.specs.CanonicalColumns.{canonical_columns}
use Rattle.table_bodies.proofs.ColumnLaws.{column_stands}
use Rattle.table_bodies.proofs.WidthLaws.{HasWholeCells, found-valid, has_cells, rowid_cell-length, slot_cell-short}

-- ---- a valid value is short

short_chosen : (null : Bool) (kind : Kind) (value : Value) → is_null value ≡ null → (if null then is_auxiliary kind else is_fitting kind value) ≡ true → side_bytes value ≤ MOST_VALUE_BYTES
short_chosen false kind value is e =
    let fitting = and_parts (is_of_kind kind value) (is_shaped kind value && nat_le (side_bytes value) MOST_VALUE_BYTES) e in
    leb-true (side_bytes value) MOST_VALUE_BYTES (and_parts (is_shaped kind value) (nat_le (side_bytes value) MOST_VALUE_BYTES) fitting.1).1
short_chosen true kind Null is e = omega arith
short_chosen true kind (Int n) is e = absurd (false≢true is)
short_chosen true kind (Text text) is e = absurd (false≢true is)
short_chosen true kind (Blob bytes) is e = absurd (false≢true is)
short_chosen true kind (Int8 vector) is e = absurd (false≢true is)
short_chosen true kind (Bits vector) is e = absurd (false≢true is)

short_number : (rowid : ℤ) (value : Value) → is_number rowid value ≡ true → side_bytes value ≤ MOST_VALUE_BYTES
short_number rowid (Int n) e = omega arith
short_number rowid Null e = absurd (false≢true e)
short_number rowid (Text text) e = absurd (false≢true e)
short_number rowid (Blob bytes) e = absurd (false≢true e)
short_number rowid (Int8 vector) e = absurd (false≢true e)
short_number rowid (Bits vector) e = absurd (false≢true e)

short_valid : (kind : Kind) (rowid : ℤ) (value : Value) → is_valid_value kind rowid value ≡ true → side_bytes value ≤ MOST_VALUE_BYTES
short_valid IntKey rowid value e = short_number rowid value e
short_valid TextKey rowid value e = short_chosen (is_null value) TextKey value refl e
short_valid (Int8Vector width metric) rowid value e = short_chosen (is_null value) (Int8Vector width metric) value refl e
short_valid (BitVector width) rowid value e = short_chosen (is_null value) (BitVector width) value refl e
short_valid IntPartition rowid value e = short_chosen (is_null value) IntPartition value refl e
short_valid TextPartition rowid value e = short_chosen (is_null value) TextPartition value refl e
short_valid IntMeta rowid value e = short_chosen (is_null value) IntMeta value refl e
short_valid TextMeta rowid value e = short_chosen (is_null value) TextMeta value refl e
short_valid BoolMeta rowid value e = short_chosen (is_null value) BoolMeta value refl e
short_valid IntAux rowid value e = short_chosen (is_null value) IntAux value refl e
short_valid TextAux rowid value e = short_chosen (is_null value) TextAux value refl e
short_valid BlobAux rowid value e = short_chosen (is_null value) BlobAux value refl e

short_there : (columns : List Column) (rowid : ℤ) (values : List Value) (i : ℕ) → are_valid_values columns rowid values ≡ true → side_bytes (get_or values i Null) ≤ MOST_VALUE_BYTES
short_there columns rowid [] zero e = omega arith
short_there columns rowid [] (suc i) e = omega arith
short_there [] rowid (x ∷ values) i e = absurd (false≢true e)
short_there (c ∷ columns) rowid (x ∷ values) zero e = short_valid c.kind rowid x (and_parts (is_valid_value c.kind rowid x) (are_valid_values columns rowid values) e).0
short_there (c ∷ columns) rowid (x ∷ values) (suc i) e = short_there columns rowid values i (and_parts (is_valid_value c.kind rowid x) (are_valid_values columns rowid values) e).1

-- ---- what is made of a value

partition_short : (value : Value) → length (partition_value_bytes value) ≤ 9 + side_bytes value
partition_short (Int n) = omega arith
partition_short (Text text) = omega arith
partition_short Null = omega arith
partition_short (Blob bytes) = omega arith
partition_short (Int8 vector) = omega arith
partition_short (Bits vector) = omega arith

id_short : (kind : Kind) (value : Value) → length (id_of kind value) ≤ side_bytes value
id_short TextKey (Text text) = omega arith
id_short TextKey Null = omega arith
id_short TextKey (Int n) = omega arith
id_short TextKey (Blob bytes) = omega arith
id_short TextKey (Int8 vector) = omega arith
id_short TextKey (Bits vector) = omega arith
id_short IntKey value = omega arith
id_short (Int8Vector width metric) value = omega arith
id_short (BitVector width) value = omega arith
id_short IntPartition value = omega arith
id_short TextPartition value = omega arith
id_short IntMeta value = omega arith
id_short TextMeta value = omega arith
id_short BoolMeta value = omega arith
id_short IntAux value = omega arith
id_short TextAux value = omega arith
id_short BlobAux value = omega arith

-- ---- what is made of all values of a row

ids_short : (columns : List Column) (rowid : ℤ) (values : List Value) → are_valid_values columns rowid values ≡ true → length (id_bytes columns values) ≤ length columns * MOST_VALUE_BYTES
ids_short [] rowid [] e = omega arith
ids_short [] rowid (x ∷ values) e = absurd (false≢true e)
ids_short (c ∷ columns) rowid [] e = absurd (false≢true e)
ids_short (c ∷ columns) rowid (x ∷ values) e =
    let parts = and_parts (is_valid_value c.kind rowid x) (are_valid_values columns rowid values) e in
    let first = id_short c.kind x in
    let few = short_valid c.kind rowid x parts.0 in
    let rest = ids_short columns rowid values parts.1 in
    omega (arith, length-append (id_of c.kind x) (id_bytes columns values), first, few, rest)

partitions_short : (columns : List Column) (rowid : ℤ) (values : List Value) → are_valid_values columns rowid values ≡ true →
    length (flat_map partition_value_bytes (partition_of columns values)) ≤ length columns * (9 + MOST_VALUE_BYTES)
partitions_short [] rowid [] e = omega arith
partitions_short [] rowid (x ∷ values) e = absurd (false≢true e)
partitions_short (c ∷ columns) rowid [] e = absurd (false≢true e)
partitions_short (c ∷ columns) rowid (x ∷ values) e = by (is_partition c.kind) (partitions_short columns rowid values (and_parts (is_valid_value c.kind rowid x) (are_valid_values columns rowid values) e).1) where
  by : (b : Bool) → length (flat_map partition_value_bytes (partition_of columns values)) ≤ length columns * (9 + MOST_VALUE_BYTES) →
      length (flat_map partition_value_bytes (cond b (x ∷ partition_of columns values) (partition_of columns values))) ≤ length (c ∷ columns) * (9 + MOST_VALUE_BYTES)
  by true rest =
      let first = partition_short x in
      let few = short_valid c.kind rowid x (and_parts (is_valid_value c.kind rowid x) (are_valid_values columns rowid values) e).0 in
      omega (arith, length-append (partition_value_bytes x) (flat_map partition_value_bytes (partition_of columns values)), first, few, rest)
  by false rest = omega (arith, rest)

value_short : (table : PlacedTable) → IsPlaced table → (test : PlacedRow → Bool) (p : PlacedRow) (place : ℕ) → find test table.rows ≡ Some p → side_bytes (value_in place p) ≤ MOST_VALUE_BYTES
value_short table placed test p place e = short_there table.schema.columns p.row.rowid p.row.values place (found-valid table placed test p e)

-- ---- bodies

-- a body that is short, if there is one
abbrev pub IsShortBody : Option (List ℕ) → Type 0
IsShortBody None = ⊤
IsShortBody (Some body) = length body ≤ MOST_CHANGE_BYTES

laid_short : (cell : ℕ → List ℕ) (count : ℕ) → ((k : ℕ) → length (cell k) ≤ 8192) → length (laid cell count) ≤ count * 8192
laid_short cell zero few = omega arith
laid_short cell (suc count) few = omega (arith, length-append (laid cell count) (cell count), laid_short cell count few, few count)

-- the cells of a chunk, of at most 8,192 bytes each
chunk_short : (table : PlacedTable) → IsPlaced table → (cell : ℕ → List ℕ) (count : ℕ) → count ≤ table.schema.chunk_size → ((k : ℕ) → length (cell k) ≤ 8192) → length (laid cell count) ≤ MOST_CHANGE_BYTES
chunk_short table placed cell count within few =
    let fits = fits_chunks table.schema placed.valid.schema.rules in
    let most = fits.most in
    omega (arith, most, within, laid_short cell count few)

bits_short : (table : PlacedTable) → IsPlaced table → (test : ℕ → Bool) → length (bitmap test table.schema.chunk_size) ≤ MOST_CHANGE_BYTES
bits_short table placed test = chunk_short table placed (λ byte. of_bits (λ bit. test (8 * byte + bit)) 8 ∷ []) (table.schema.chunk_size / 8) (omega arith) (λ k. omega arith)

choose : (b : Bool) (x y : Option (List ℕ)) → IsShortBody x → IsShortBody y → IsShortBody (if b then x else y)
choose true x y first second = first
choose false x y first second = second

zero_short : (at : ℤ) (body : Option (List ℕ)) → IsShortBody body → IsShortBody (at_zero at body)
zero_short (pos zero) body short = short
zero_short (pos (suc n)) body short = tt
zero_short (negsuc n) body short = tt

name_short : (name : List ℕ) → is_name name ≡ true → length name ≤ 64
name_short name e = leb-true (length name) 64 (and_parts (is_small_word name) (nat_le (length name) 64) (and_parts (is_small_word name && nat_le (length name) 64) (not (is_reserved name)) e).0).1

info_short : (table : PlacedTable) (a : ℤ) → IsPlaced table → IsShortBody (info_body table a)
info_short table (pos zero) placed =
    omega (arith, length-append table.name (canonical_columns table.schema), name_short table.name placed.name, canonical_short table.schema placed.valid.schema)
info_short table (pos (suc zero)) placed = omega arith
info_short table (pos (suc (suc n))) placed = tt
info_short table (negsuc n) placed = tt

first_short : (table : PlacedTable) (chunk : ℕ) (b : ℤ) (first : PlacedRow) → IsPlaced table → first_in table.rows chunk ≡ Some first → IsShortBody (chunk_body table chunk b first)
first_short table chunk (pos zero) first placed e =
    let valid = found-valid table placed (λ (p : PlacedRow). p.chunk == chunk) first e in
    omega (arith, partitions_short table.schema.columns first.row.rowid first.row.values valid, few_columns table.schema placed.valid.schema)
first_short table chunk (pos (suc zero)) first placed e = bits_short table placed (λ slot. is_used (row_at table.rows chunk slot))
first_short table chunk (pos (suc (suc zero))) first placed e =
    chunk_short table placed (λ slot. rowid_cell (row_at table.rows chunk slot)) table.schema.chunk_size (omega arith) (λ k. omega (arith, rowid_cell-length (row_at table.rows chunk k)))
first_short table chunk (pos (suc (suc (suc n)))) first placed e = tt
first_short table chunk (negsuc n) first placed e = tt

chunks_short : (table : PlacedTable) (body : ℕ → PlacedRow → Option (List ℕ)) (a : ℤ) → ((chunk : ℕ) (first : PlacedRow) → first_in table.rows chunk ≡ Some first → IsShortBody (body chunk first)) → IsShortBody (of_chunk table body a)
chunks_short table body (negsuc n) short = tt
chunks_short table body (pos chunk) short = by (first_in table.rows chunk) refl where
  by : (first : Option PlacedRow) → first_in table.rows chunk ≡ first → IsShortBody (of_first (body chunk) first)
  by None e = tt
  by (Some p) e = short chunk p e

place_short : (table : PlacedTable) (rowid : ℤ) → IsPlaced table → IsShortBody (place_body table.schema.columns (row_of table.rows rowid))
place_short table rowid placed = by (row_of table.rows rowid) refl where
  by : (row : Option PlacedRow) → row_of table.rows rowid ≡ row → IsShortBody (place_body table.schema.columns row)
  by None e = tt
  by (Some p) e =
      let valid = found-valid table placed (λ (q : PlacedRow). int_eq q.row.rowid rowid) p e in
      let ids = ids_short table.schema.columns p.row.rowid p.row.values valid in
      omega (arith, length-append (to_le_bytes w32 p.chunk ++ to_le_bytes w16 p.slot) (id_bytes table.schema.columns p.row.values), ids, few_columns table.schema placed.valid.schema)

-- the roles of the columns whose cells lie in chunks
abbrev IsCellRole : (Kind → Bool) → Type 0
IsCellRole role = (kind : Kind) → role kind ≡ true → (is_vector kind || is_metadata kind) ≡ true

vector_role : IsCellRole is_vector
vector_role kind is = rw is refl

metadata_role : IsCellRole is_metadata
metadata_role kind is = by (is_vector kind) where
  by : (b : Bool) → (b || is_metadata kind) ≡ true
  by true = refl
  by false = is

cells_short : (table : PlacedTable) (role : Kind → Bool) (before chunk : ℕ) (c : ColumnAt) → IsPlaced table → IsCellRole role → nth_column role 0 table.schema.columns before ≡ Some c →
    IsShortBody (Some (cells_body table chunk c))
cells_short table role before chunk c placed cells is = by (is_bits_column c.kind) refl where
  by : (b : Bool) → is_bits_column c.kind ≡ b → length (cond b (bitmap (λ slot. slot_bit c (row_at table.rows chunk slot)) table.schema.chunk_size) (laid (λ slot. slot_cell c (row_at table.rows chunk slot)) table.schema.chunk_size)) ≤ MOST_CHANGE_BYTES
  by true e = bits_short table placed (λ slot. slot_bit c (row_at table.rows chunk slot))
  by false e =
      let stands = column_stands role 0 table.schema.columns before c is in
      let whole : has_cells c.kind ≡ true = rw (cells c.kind stands.kind, e) refl in
      let has : HasWholeCells table c = record { role = role; before = before; is = is; whole = whole } in
      chunk_short table placed (λ slot. slot_cell c (row_at table.rows chunk slot)) table.schema.chunk_size (omega arith) (slot_cell-short table c placed has chunk)

columns_short : (table : PlacedTable) (role : Kind → Bool) (chunk : ℕ) (b : ℤ) → IsPlaced table → IsCellRole role → IsShortBody (option_map (cells_body table chunk) (column_at role table b))
columns_short table role chunk (negsuc n) placed cells = tt
columns_short table role chunk (pos before) placed cells = by (nth_column role 0 table.schema.columns before) refl where
  by : (found : Option ColumnAt) → nth_column role 0 table.schema.columns before ≡ found → IsShortBody (option_map (cells_body table chunk) found)
  by None e = tt
  by (Some c) e = cells_short table role before chunk c placed cells e

long_text_short : (value : Value) → side_bytes value ≤ MOST_VALUE_BYTES → IsShortBody (long_text value)
long_text_short Null few = tt
long_text_short (Int n) few = tt
long_text_short (Blob bytes) few = tt
long_text_short (Int8 vector) few = tt
long_text_short (Bits vector) few = tt
long_text_short (Text text) few = by (nat_lt 12 (length text)) where
  by : (b : Bool) → IsShortBody (cond b (Some text) None)
  by true = omega (arith, few)
  by false = tt

side_body_short : (value : Value) → side_bytes value ≤ MOST_VALUE_BYTES → IsShortBody (side_body value)
side_body_short Null few = tt
side_body_short (Int n) few = omega arith
side_body_short (Text text) few = omega (arith, few)
side_body_short (Blob bytes) few = omega (arith, few)
side_body_short (Int8 vector) few = tt
side_body_short (Bits vector) few = tt

values_short : (table : PlacedTable) (body : Value → Option (List ℕ)) (rowid : ℤ) (column : Option ColumnAt) → IsPlaced table → ((value : Value) → side_bytes value ≤ MOST_VALUE_BYTES → IsShortBody (body value)) →
    IsShortBody (value_body body (row_of table.rows rowid) column)
values_short table body rowid column placed short = by (row_of table.rows rowid) refl column where
  by : (row : Option PlacedRow) → row_of table.rows rowid ≡ row → (column : Option ColumnAt) → IsShortBody (value_body body row column)
  by None e column = tt
  by (Some p) e None = tt
  by (Some p) e (Some c) = short (value_in c.place p) (value_short table placed (λ (q : PlacedRow). int_eq q.row.rowid rowid) p c.place e)

-- each body of a sound table is short, where it is there
pub bodies_short : (table : PlacedTable) → IsPlaced table → (key : ShadowKey) → IsShortBody (body_of table key)
bodies_short table placed key =
    choose (key.kind == 1) _ _ (zero_short key.b (info_body table key.a) (info_short table key.a placed))
    (choose (key.kind == 2) _ _ (chunks_short table (λ chunk. chunk_body table chunk key.b) key.a (λ chunk first e. first_short table chunk key.b first placed e))
    (choose (key.kind == 3) _ _ (zero_short key.b (place_body table.schema.columns (row_of table.rows key.a)) (place_short table key.a placed))
    (choose (key.kind == 4) _ _ (chunks_short table (λ chunk first. option_map (cells_body table chunk) (column_at is_vector table key.b)) key.a (λ chunk first e. columns_short table is_vector chunk key.b placed vector_role))
    (choose (key.kind == 5) _ _ (chunks_short table (λ chunk first. option_map (cells_body table chunk) (column_at is_metadata table key.b)) key.a (λ chunk first e. columns_short table is_metadata chunk key.b placed metadata_role))
    (choose (key.kind == 6) _ _ (values_short table long_text key.a (column_at is_metadata table key.b) placed long_text_short)
    (choose (key.kind == 7) _ None (values_short table side_body key.a (column_at is_auxiliary table key.b) placed side_body_short) tt))))))

pub body_short : (table : PlacedTable) → IsPlaced table → (key : ShadowKey) (body : List ℕ) → body_of table key ≡ Some body → length body ≤ MOST_CHANGE_BYTES
body_short table placed key body e = subst IsShortBody e (bodies_short table placed key)

pub found_short : (table : PlacedTable) → IsPlaced table → (key : ShadowKey) (found : Option (List ℕ)) → found ≡ body_of table key → IfSome found (λ bytes. length bytes ≤ MOST_CHANGE_BYTES)
found_short table placed key None e = tt
found_short table placed key (Some body) e = body_short table placed key body (sym e)

-- Records of units in two tables: what differs of them is written, or they are filled or taken away.
use Rattle.std.proofs.Common.{◌≡◌, ℕ, zero, suc, ◌+◌, ◌*◌, ◌/◌, ◌^◌, ◌<◌, ◌≤◌, ℤ, pos, List, [], ◌∷◌, ◌++◌, length, take, get_or, replicate, nat_lt, cond, Bool, true, false, Option, Some, None, is_some, refl, sym, ap, ◌∙◌, subst, arith}
use Rattle.std.specs.Option.{option_map}
use Rattle.std.proofs.lemmas.Bool.{false≢true, and_parts, ltb-true}
use Rattle.vec_base.specs.Forms.{is_listed}
use Rattle.vec_base.specs.declared.shadow.Change.{Change}
use Rattle.vec_base.specs.declared.shadow.Change.TheVariants.{Fill, Patch, Remove}
use Rattle.vec_base.specs.declared.shadow.ShadowKey.{ShadowKey}
use Rattle.row_model.specs.Schemas.{is_metadata, is_vector}
use Rattle.row_model.specs.declared.schema.Column.{Column}
use Rattle.row_model.specs.declared.schema.Kind.{Kind}
use Rattle.row_model.specs.declared.schema.Kind.TheVariants.{IntKey, TextKey, Int8Vector, BitVector, IntPartition, TextPartition, IntMeta, TextMeta, BoolMeta, IntAux, TextAux, BlobAux}
use Rattle.row_model.specs.declared.schema.Schema.{Schema}
use Rattle.shadow_keeper.specs.declared.keeper.TheConstants.{MOST_CHANGE_BYTES}
use Rattle.shadow_records.specs.Cells.{laid, of_bits}
use Rattle.shadow_records.specs.Keys.{is_key, key_of}
use Rattle.shadow_records.specs.PlacedTables.{PlacedRow, PlacedTable, IsPlaced, first_in, row_at}
use Rattle.shadow_records.specs.Records.{ColumnAt, body_of, column_at, is_bits_column, is_used, nth_column, rowid_cell, slot_bit, slot_cell}
use Rattle.shadow_records.specs.StandsFor.{record_in}
use Rattle.table_bodies.specs.Units.{IsUnitRecord, cells_kind, cells_record, seen, unit, unit_count, unit_key, unit_width}
use Rattle.table_bodies.specs.declared.column_place.ColumnPlace.{ColumnPlace}
use Rattle.table_bodies.specs.declared.unit_record.UnitRecord.{UnitRecord}
use Rattle.table_bodies.specs.declared.unit_record.UnitRecord.TheVariants.{Used, Rowids, Truths, Cells}
use Rattle.table_bodies.proofs.UnitLaws.{metadata_record, unit_body, unit_wide, vector_record, width_low}
use Rattle.table_changes.specs.declared.touched.Touched.{Touched}
use Rattle.table_changes.specs.inner.Steps.{RewritesOne, TurnsKeys}
use Rattle.table_changes.specs.inner.Touching.{HoldsUnits, IsRecordOf, IsTouched, are_below, units_in}
use Rattle.table_changes.proofs.PatchLaws.{filled, patch_all, patch_more, written}
use Rattle.table_changes.proofs.SameLaws.{none_in}
use Rattle.table_changes.proofs.Steps.{one_remove, rewrites-one, rewrites-twice}

-- ---- which record a key is of

key_from : (q : ShadowKey) (k : ℕ) (a b : ℤ) → q.kind ≡ k → q.a ≡ a → q.b ≡ b → key_of q.table k a b ≡ q
key_from q k a b v w x = sym (λ i. record { table = q.table; kind = v i; a = w i; b = x i })

pub used_record : (columns : List Column) (key : ShadowKey) → key.kind ≡ 2 → key.b ≡ pos 1 → IsRecordOf columns key Used
used_record columns key kind b = (tt, λ chunk a. key_from key 2 (pos chunk) (pos 1) kind a b)

pub rowids_record : (columns : List Column) (key : ShadowKey) → key.kind ≡ 2 → key.b ≡ pos 2 → IsRecordOf columns key Rowids
rowids_record columns key kind b = (tt, λ chunk a. key_from key 2 (pos chunk) (pos 2) kind a b)

found_sort : (sort : Kind → Bool) (place : ℕ) (columns : List Column) (before : ℕ) (column : ColumnAt) → nth_column sort place columns before ≡ Some column → sort column.kind ≡ true
found_sort sort place [] before column e = absurd cc
found_sort sort place (c ∷ columns) zero column e = by (sort c.kind) refl e (found_sort sort (suc place) columns zero column) where
  by : (b : Bool) → sort c.kind ≡ b → cond b (Some (record { place = place; kind = c.kind })) (nth_column sort (suc place) columns zero) ≡ Some column → (nth_column sort (suc place) columns zero ≡ Some column → sort column.kind ≡ true) → sort column.kind ≡ true
  by true is f rest = sym (ap sort (ap kind_in f)) ∙ is where
    kind_in : Option ColumnAt → Kind
    kind_in None = c.kind
    kind_in (Some x) = x.kind
  by false is f rest = rest f
found_sort sort place (c ∷ columns) (suc before) column e = by (sort c.kind) e (found_sort sort (suc place) columns before column) (found_sort sort (suc place) columns (suc before) column) where
  by : (b : Bool) → cond b (nth_column sort (suc place) columns before) (nth_column sort (suc place) columns (suc before)) ≡ Some column
      → (nth_column sort (suc place) columns before ≡ Some column → sort column.kind ≡ true) → (nth_column sort (suc place) columns (suc before) ≡ Some column → sort column.kind ≡ true) → sort column.kind ≡ true
  by true f less rest = less f
  by false f less rest = rest f

of_cells : (key : ShadowKey) (kind chunk : ℕ) (column : ColumnPlace) → cells_kind column.kind ≡ kind → (is_bits_column column.kind ≡ true → kind ≡ 5) → key.kind ≡ kind → key.a ≡ pos chunk → pos column.before ≡ key.b → unit_key key.table chunk (cells_record column) ≡ key
of_cells key kind chunk column cells truths at a b = by (is_bits_column column.kind) refl where
  by : (t : Bool) → is_bits_column column.kind ≡ t → unit_key key.table chunk (cond t (Truths column) (Cells column)) ≡ key
  by true e = key_from key 5 (pos chunk) (pos column.before) (at ∙ truths e) a (sym b)
  by false e = key_from key (cells_kind column.kind) (pos chunk) (pos column.before) (at ∙ sym cells) a (sym b)

bits_no_vector : (kind : Kind) → is_vector kind ≡ true → is_bits_column kind ≡ false
bits_no_vector IntKey is = refl
bits_no_vector TextKey is = refl
bits_no_vector (Int8Vector w m) is = refl
bits_no_vector (BitVector w) is = refl
bits_no_vector IntPartition is = refl
bits_no_vector TextPartition is = refl
bits_no_vector IntMeta is = refl
bits_no_vector TextMeta is = refl
bits_no_vector BoolMeta is = absurd (false≢true is)
bits_no_vector IntAux is = refl
bits_no_vector TextAux is = refl
bits_no_vector BlobAux is = refl

metadata_no_vector : (kind : Kind) → is_metadata kind ≡ true → is_vector kind ≡ false
metadata_no_vector IntKey is = refl
metadata_no_vector TextKey is = refl
metadata_no_vector (Int8Vector w m) is = absurd (false≢true is)
metadata_no_vector (BitVector w) is = absurd (false≢true is)
metadata_no_vector IntPartition is = refl
metadata_no_vector TextPartition is = refl
metadata_no_vector IntMeta is = refl
metadata_no_vector TextMeta is = refl
metadata_no_vector BoolMeta is = refl
metadata_no_vector IntAux is = refl
metadata_no_vector TextAux is = refl
metadata_no_vector BlobAux is = refl

pub vectors_record : (table : PlacedTable) (key : ShadowKey) (column : ColumnPlace) → key.kind ≡ 4 → Some (seen column) ≡ column_at is_vector table key.b → pos column.before ≡ key.b → IsRecordOf table.schema.columns key (cells_record column)
vectors_record table key column kind found b =
    let there : column_at is_vector table (pos column.before) ≡ Some (seen column) = ap (column_at is_vector table) b ∙ sym found in
    let sort : is_vector column.kind ≡ true = found_sort is_vector 0 table.schema.columns column.before (seen column) there in (
      vector_record table column there,
      λ chunk a. of_cells key 4 chunk column (ap (λ c. cond c 4 5) sort) (λ e. absurd (false≢true (sym (bits_no_vector column.kind sort) ∙ e))) kind a b,
    )

pub metadata_of : (table : PlacedTable) (key : ShadowKey) (column : ColumnPlace) → key.kind ≡ 5 → Some (seen column) ≡ column_at is_metadata table key.b → pos column.before ≡ key.b → IsRecordOf table.schema.columns key (cells_record column)
metadata_of table key column kind found b =
    let there : column_at is_metadata table (pos column.before) ≡ Some (seen column) = ap (column_at is_metadata table) b ∙ sym found in
    let sort : is_metadata column.kind ≡ true = found_sort is_metadata 0 table.schema.columns column.before (seen column) there in (
      metadata_record table column there,
      λ chunk a. of_cells key 5 chunk column (ap (λ c. cond c 4 5) (metadata_no_vector column.kind sort)) (λ e. refl) kind a b,
    )

-- ---- the same units

bits_same : (f g : ℕ → Bool) (count : ℕ) → ((bit : ℕ) → bit < count → f bit ≡ g bit) → of_bits f count ≡ of_bits g count
bits_same f g zero same = refl
bits_same f g (suc count) same =
    ap (λ n. n + cond (f count) (2 ^ count) 0) (bits_same f g count (λ bit less. same bit (omega (arith, less))))
    ∙ ap (λ b. of_bits g count + cond b (2 ^ count) 0) (same count (omega arith))

byte_of : (k bit : ℕ) → bit < 8 → (8 * k + bit) / 8 ≡ k
byte_of k bit less = omega (arith, less)

in_size : (k bit size : ℕ) → k < size / 8 → bit < 8 → 8 * k + bit < size
in_size k bit size low less = omega (arith, low, less)

module _ (older newer : PlacedTable) (touched : Touched) (same : IsTouched older.rows newer.rows newer.schema.chunk_size touched) where
  byte_same : (test : Option PlacedRow → Bool) (k : ℕ) → k < newer.schema.chunk_size / 8 → is_listed touched.bytes k ≡ false
      → of_bits (λ bit. test (row_at older.rows touched.chunk (8 * k + bit))) 8 ∷ [] ≡ of_bits (λ bit. test (row_at newer.rows touched.chunk (8 * k + bit))) 8 ∷ []
  byte_same test k low out = ap (λ n. n ∷ []) (bits_same (λ bit. test (row_at older.rows touched.chunk (8 * k + bit))) (λ bit. test (row_at newer.rows touched.chunk (8 * k + bit))) 8
      (λ bit less. ap test (same.bytes (8 * k + bit) (in_size k bit newer.schema.chunk_size low less) (ap (is_listed touched.bytes) (byte_of k bit less) ∙ out))))

  pub holds_units : (of : UnitRecord) → HoldsUnits older newer touched.chunk of (units_in of touched)
  holds_units Used = record { below = same.bytes_below; same = λ k low out. byte_same is_used k low out }
  holds_units Rowids = record { below = same.slots_below; same = λ k low out. ap rowid_cell (same.slots k low out) }
  holds_units (Truths column) = record { below = same.bytes_below; same = λ k low out. byte_same (slot_bit (seen column)) k low out }
  holds_units (Cells column) = record { below = same.slots_below; same = λ k low out. ap (slot_cell (seen column)) (same.slots k low out) }

-- ---- patches

below-at : (count : ℕ) (places : List ℕ) (i d : ℕ) → are_below count places ≡ true → i < length places → get_or places i d < count
below-at count [] i d all within = absurd (omega arith)
below-at count (p ∷ places) zero d all within = ltb-true p count (and_parts (nat_lt p count) (are_below count places) all).0
below-at count (p ∷ places) (suc i) d all within = below-at count places i d (and_parts (nat_lt p count) (are_below count places) all).1 (omega arith)

with_schema : (older newer : Schema) (of : UnitRecord) → older ≡ newer → IsUnitRecord newer.columns of → IsUnitRecord older.columns of
with_schema older newer of same is = let P : Schema → Type 0 = λ s. IsUnitRecord s.columns of in subst P (sym same) is

few_bytes : (n : ℕ) → n ≤ 8192 → n ≤ MOST_CHANGE_BYTES
few_bytes n low = omega (arith, low)

module _ (older newer : PlacedTable) (older_placed : IsPlaced older) (newer_placed : IsPlaced newer) (schema : older.schema ≡ newer.schema) (of : UnitRecord) (is : IsUnitRecord newer.schema.columns of) (key : ShadowKey) (chunk : ℕ) where
  abbrev pub PatchedTo : List ℕ → List Change → List Change → Type 0
  PatchedTo units old new =
      RewritesOne key (Some (laid (unit of older chunk) (unit_count of newer.schema.chunk_size)))
      (Some (laid (written (unit of older chunk) (unit of newer chunk) units) (unit_count of newer.schema.chunk_size))) old new

  pub unit_more : (units : List ℕ) (i at : ℕ) (old mid new : List Change) → HoldsUnits older newer chunk of units → i < length units → at ≡ get_or units i at
      → PatchedTo (take i units) old mid → new ≡ mid ++ Patch key (at * unit_width of) (unit of newer chunk at) ∷ [] → PatchedTo (take (i + 1) units) old new
  unit_more units i at old mid new holds within place done made =
      patch_more key (unit_width of) (unit_count of newer.schema.chunk_size) (unit of older chunk) (unit of newer chunk)
      (unit_wide older older_placed of (with_schema older.schema newer.schema of schema is) chunk) (unit_wide newer newer_placed of is chunk) (few_bytes (unit_width of) (width_low newer newer_placed of is))
      units i at old mid new (unit of newer chunk at) within place (subst (λ (n : ℕ). n < unit_count of newer.schema.chunk_size) (sym place) (below-at (unit_count of newer.schema.chunk_size) units i at holds.below within)) refl done made

  pub units_end : (units : List ℕ) (n : ℕ) (old new : List Change) → HoldsUnits older newer chunk of units → length units ≤ n → PatchedTo (take n units) old new
      → RewritesOne key (Some (laid (unit of older chunk) (unit_count of newer.schema.chunk_size))) (Some (laid (unit of newer chunk) (unit_count of newer.schema.chunk_size))) old new
  units_end units n old new holds end done =
      patch_all key (unit_width of) (unit_count of newer.schema.chunk_size) (unit of older chunk) (unit of newer chunk)
      (unit_wide older older_placed of (with_schema older.schema newer.schema of schema is) chunk) (unit_wide newer newer_placed of is chunk) (few_bytes (unit_width of) (width_low newer newer_placed of is))
      units n old new end holds.same done

-- the item at a place within
pub item_at : (xs : List ℕ) (i d e : ℕ) → i < length xs → get_or xs i d ≡ get_or xs i e
item_at [] i d e within = absurd (omega arith)
item_at (x ∷ xs) zero d e within = refl
item_at (x ∷ xs) (suc i) d e within = item_at xs i d e (omega arith)

-- no unit is written yet
pub units_start : (key : ShadowKey) (body : Option (List ℕ)) (old : List Change) → RewritesOne key body body old old
units_start key body old = record { these = λ k first e given. given; others = λ k first last e given. given; short = λ short. short }

-- ---- filling and taking away

module _ (table : PlacedTable) (of : UnitRecord) (key : ShadowKey) (chunk : ℕ) (is : IsRecordOf table.schema.columns key of) (at : key.a ≡ pos chunk) where
  abbrev units : List ℕ
  units = laid (unit of table chunk) (unit_count of table.schema.chunk_size)

  pub own_body : body_of table key ≡ option_map (λ first. units) (first_in table.rows chunk)
  own_body = ap (body_of table) (sym (is.1 chunk at)) ∙ unit_body table key.table chunk of is.0

  there : (o : Option PlacedRow) → is_some o ≡ true → option_map (λ first. units) o ≡ Some units
  there None e = absurd (false≢true e)
  there (Some first) e = refl

  missing : (o : Option PlacedRow) → is_some o ≡ false → o ≡ None
  missing None e = refl
  missing (Some first) e = absurd (false≢true (sym e))

  pub body_there : is_some (first_in table.rows chunk) ≡ true → body_of table key ≡ Some units
  body_there e = own_body ∙ there (first_in table.rows chunk) e

  pub body_missing : is_some (first_in table.rows chunk) ≡ false → body_of table key ≡ None
  body_missing e = own_body ∙ ap (option_map (λ first. units)) (missing (first_in table.rows chunk) e)

  mapped : (o : Option PlacedRow) → is_some (option_map (λ first. units) o) ≡ is_some o
  mapped None = refl
  mapped (Some first) = refl

  pub some_body : is_some (body_of table key) ≡ is_some (first_in table.rows chunk)
  some_body = ap is_some own_body ∙ mapped (first_in table.rows chunk)

  zero_unit : (u : UnitRecord) (k : ℕ) → ((s : ℕ) → row_at table.rows chunk s ≡ None) → unit u table chunk k ≡ replicate (unit_width u) 0
  zero_unit Used k none = ap (λ (f : ℕ → Option PlacedRow). of_bits (λ bit. is_used (f (8 * k + bit))) 8 ∷ []) (λ i s. none s i)
  zero_unit Rowids k none = ap rowid_cell (none k)
  zero_unit (Truths column) k none = ap (λ (f : ℕ → Option PlacedRow). of_bits (λ bit. slot_bit (seen column) (f (8 * k + bit))) 8 ∷ []) (λ i s. none s i)
  zero_unit (Cells column) k none = ap (slot_cell (seen column)) (none k)

  pub fill_none : (old : List Change) → is_some (first_in table.rows chunk) ≡ true → RewritesOne key (body_of table key) (Some units) old old
  fill_none old e =
      let P : Option (List ℕ) → Type 0 = λ body. RewritesOne key (body_of table key) body old old in
      subst P (body_there e) (units_start key (body_of table key) old)

  pub fill_new : (old new : List Change) (bytes : ℕ) → is_some (first_in table.rows chunk) ≡ false → bytes ≡ unit_count of table.schema.chunk_size * unit_width of → new ≡ old ++ Fill key bytes ∷ []
      → RewritesOne key (body_of table key) (Some units) old new
  fill_new old new bytes e counted made =
      let P : List Change → Type 0 = λ cs. RewritesOne key (body_of table key) (Some units) old cs in
      let none : first_in table.rows chunk ≡ None = missing (first_in table.rows chunk) e in
      subst P (sym (made ∙ ap (λ n. old ++ Fill key n ∷ []) counted))
      (filled key (unit_width of) (unit_count of table.schema.chunk_size) (unit of table chunk) (body_of table key) old (λ k. zero_unit of k (λ s. none_in table.rows chunk s none)))

  pub remove_there : (old new : List Change) → is_some (first_in table.rows chunk) ≡ true → new ≡ old ++ Remove key ∷ [] → RewritesOne key (body_of table key) None old new
  remove_there old new e made =
      let P : List Change → Type 0 = λ cs. RewritesOne key (body_of table key) None old cs in
      let Q : Option (List ℕ) → Type 0 = λ body. RewritesOne key body None old (old ++ Remove key ∷ []) in
      subst P (sym made) (subst Q (sym (body_there e)) (one_remove key (Some units) old refl))

  pub remove_none : (old : List Change) → is_some (first_in table.rows chunk) ≡ false → RewritesOne key (body_of table key) None old old
  remove_none old e =
      let P : Option (List ℕ) → Type 0 = λ body. RewritesOne key (body_of table key) body old old in
      subst P (body_missing e) (units_start key (body_of table key) old)

-- ---- the whole record

record_with : (older newer : Schema) (key : ShadowKey) (of : UnitRecord) → older ≡ newer → IsRecordOf newer.columns key of → IsRecordOf older.columns key of
record_with older newer key of same is = let P : Schema → Type 0 = λ s. IsRecordOf s.columns key of in subst P (sym same) is

pub of_older : (older newer : PlacedTable) (key : ShadowKey) (of : UnitRecord) → older.schema ≡ newer.schema → IsRecordOf newer.schema.columns key of → IsRecordOf older.schema.columns key of
of_older older newer key of same is = record_with older.schema newer.schema key of same is

-- a chunk that is gone
pub gone_record : (older newer : PlacedTable) (of : UnitRecord) (key : ShadowKey) (chunk : ℕ) (old new : List Change) → IsRecordOf newer.schema.columns key of → key.a ≡ pos chunk → is_some (first_in newer.rows chunk) ≡ false
    → RewritesOne key (body_of older key) None old new → TurnsKeys (λ k. is_key k key) (Some older) (Some newer) old new
gone_record older newer of key chunk old new is at none done =
    rewrites-one key (record_in (Some older)) (record_in (Some newer)) (body_of older key) None old new refl (sym (body_missing newer of key chunk is at none)) done

-- a chunk that is there
pub patched_record : (older newer : PlacedTable) (of : UnitRecord) (key : ShadowKey) (chunk : ℕ) (old mid new : List Change) → older.schema ≡ newer.schema → IsRecordOf newer.schema.columns key of → key.a ≡ pos chunk → is_some (first_in newer.rows chunk) ≡ true
    → RewritesOne key (body_of older key) (Some (laid (unit of older chunk) (unit_count of older.schema.chunk_size))) old mid
    → RewritesOne key (Some (laid (unit of older chunk) (unit_count of newer.schema.chunk_size))) (Some (laid (unit of newer chunk) (unit_count of newer.schema.chunk_size))) mid new
    → TurnsKeys (λ k. is_key k key) (Some older) (Some newer) old new
patched_record older newer of key chunk old mid new schema is at some first second =
    let P : ℕ → Type 0 = λ size. RewritesOne key (body_of older key) (Some (laid (unit of older chunk) (unit_count of size))) old mid in
    let one = subst P (ap (λ (s : Schema). s.chunk_size) schema) first in
    rewrites-one key (record_in (Some older)) (record_in (Some newer)) (body_of older key) (Some (laid (unit of newer chunk) (unit_count of newer.schema.chunk_size))) old new refl (sym (body_there newer of key chunk is at some))
    (rewrites-twice (λ k. is_key k key) (λ k. body_of older key) (λ k. Some (laid (unit of older chunk) (unit_count of newer.schema.chunk_size))) (λ k. Some (laid (unit of newer chunk) (unit_count of newer.schema.chunk_size))) old mid new one second)

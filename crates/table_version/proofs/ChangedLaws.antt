-- A row with another value in one of its columns: it is stored with another vector or another cell, and the table stays sound.
use Rattle.std.proofs.Common.{◌≡◌, ℕ, ℤ, ◌+◌, ◌<◌, Bool, true, false, cond, List, [], ◌∷◌, ◌∙◌, refl, sym, ap, ap₂, subst, arith, map, length, slice_set, Option, Some, None}
use Rattle.std.specs.Prelude.{find, int_lt, nat_lt, slice_index_or, if◌then◌else◌}
use Rattle.std.specs.List.{list_all, AllByRecursion}
use Rattle.std.specs.Ordering.{int_eq}
use Rattle.std.proofs.lemmas.Bool.{and_parts, and_from}
use Rattle.std.proofs.lemmas.List.Sums.{sum_by-cons}
use Rattle.vec_base.specs.Representable.{IsRepresentable}
use Rattle.vec_base.specs.declared.value.Value.{Value}
use Rattle.vec_base.specs.declared.value.Value.TheVariants.{Null}
use Rattle.chunk_slots.specs.Slots.{vector_of, vectors_of}
use Rattle.row_chunks.specs.Cells.{cells_of, is_cell, is_cell_value}
use Rattle.row_model.specs.Change.{rows_side_bytes, same_id, with_rows}
use Rattle.row_model.specs.ColumnNames.{is_text_key}
use Rattle.row_model.specs.Groups.{before_in, kind_in}
use Rattle.row_model.specs.Rows.{has_rowid, is_rising}
use Rattle.row_model.specs.Schemas.{count_of, is_key, is_partition, is_vector}
use Rattle.row_model.specs.Valid.{is_valid_row, IsRepresentableRow, IsValidTable}
use Rattle.row_model.specs.Values.{row_side_bytes, side_bytes}
use Rattle.row_model.specs.declared.row.Row.{Row}
use Rattle.row_model.specs.declared.schema.Column.{Column}
use Rattle.row_model.specs.declared.schema.Kind.{Kind}
use Rattle.row_model.specs.declared.schema.Kind.TheVariants.{IntKey, TextKey, Int8Vector, BitVector, IntPartition, TextPartition, IntMeta, TextMeta, BoolMeta, IntAux, TextAux, BlobAux}
use Rattle.row_model.specs.declared.schema.Schema.{Schema}
use Rattle.row_model.proofs.BoolLaws.{or_first, or_second}
use Rattle.row_model.proofs.ValidityRows.{Keeps, is_int_key, valid_map}
use Rattle.row_store.specs.StoredRows.{StoredRow, with_cell, with_changed, with_vector}
use Rattle.row_store.specs.Touches.{HasSameShape, StoreState}
use Rattle.shadow_records.specs.PlacedTables.{PlacedRow, PlacedTable, AreAlike, AreApart, IsPlaced, is_place, partition_of, plain, plain_rows}
use Rattle.table_version.specs.Kept.{id_in}
use Rattle.table_version.specs.PlacedRows.{changed_placed, with_value}
use Rattle.table_version.specs.inner.StoredTables.{placed, placed_rows, stored, table_from, GivesAgain, IsSound}
use Rattle.table_version.proofs.ByteLaws.{none_above}
use Rattle.table_version.proofs.OriginLaws.{again_placed}
use Rattle.table_version.proofs.PlacedLaws.{pairs_map}
use Rattle.table_version.proofs.SettingLaws.{all-set, cells-other, cells-set, id-other, partition-other, place-low, same_id-other, sum-set, valid-set, vectors-other, vectors-set}

-- ---- columns that can be set

pub record IsSettable (kind : Kind) : Type 0 where
  pub no_int : is_int_key kind ≡ false
  pub no_text : is_text_key kind ≡ false
  pub no_partition : is_partition kind ≡ false

pub cell_settable : (kind : Kind) → is_cell kind ≡ true → IsSettable kind × (is_vector kind ≡ false)
cell_settable IntKey is = absurd cc
cell_settable TextKey is = absurd cc
cell_settable (Int8Vector width metric) is = absurd cc
cell_settable (BitVector width) is = absurd cc
cell_settable IntPartition is = absurd cc
cell_settable TextPartition is = absurd cc
cell_settable IntMeta is = (record { no_int = refl; no_text = refl; no_partition = refl }, refl)
cell_settable TextMeta is = (record { no_int = refl; no_text = refl; no_partition = refl }, refl)
cell_settable BoolMeta is = (record { no_int = refl; no_text = refl; no_partition = refl }, refl)
cell_settable IntAux is = (record { no_int = refl; no_text = refl; no_partition = refl }, refl)
cell_settable TextAux is = (record { no_int = refl; no_text = refl; no_partition = refl }, refl)
cell_settable BlobAux is = (record { no_int = refl; no_text = refl; no_partition = refl }, refl)

pub vector_settable : (kind : Kind) → is_vector kind ≡ true → IsSettable kind × (is_cell kind ≡ false)
vector_settable IntKey is = absurd cc
vector_settable TextKey is = absurd cc
vector_settable (Int8Vector width metric) is = (record { no_int = refl; no_text = refl; no_partition = refl }, refl)
vector_settable (BitVector width) is = (record { no_int = refl; no_text = refl; no_partition = refl }, refl)
vector_settable IntPartition is = absurd cc
vector_settable TextPartition is = absurd cc
vector_settable IntMeta is = absurd cc
vector_settable TextMeta is = absurd cc
vector_settable BoolMeta is = absurd cc
vector_settable IntAux is = absurd cc
vector_settable TextAux is = absurd cc
vector_settable BlobAux is = absurd cc

-- ---- how the changed row is stored

abbrev row_stored : ℤ → ℕ → ℕ → Option (List ℕ) → List Value → List (List ℕ) → List Value → StoredRow
row_stored rowid chunk slot id partition vectors cells = record { rowid = rowid; chunk = chunk; slot = slot; id = id; partition = partition; vectors = vectors; cells = cells }

pub cell_stored : (columns : List Column) (s : StoredRow) (place : ℕ) (kind : Kind) (value : Value) → kind_in columns place ≡ Some kind → is_cell kind ≡ true → vector_of value ≡ None →
    GivesAgain columns s → is_valid_row columns (placed columns s).row ≡ true → stored columns (with_value place value (placed columns s)) ≡ with_cell (before_in is_cell columns place) value s
cell_stored columns s place kind value there is none again valid =
    let values = (placed columns s).row.values in
    let settable = cell_settable kind is in
    let index = before_in is_cell columns place in
    ap₂ (λ (id : Option (List ℕ)) (partition : List Value). row_stored s.rowid s.chunk s.slot id partition (vectors_of (slice_set values place value)) (cells_of columns (slice_set values place value)))
    (id-other columns values place kind value there settable.0.no_text) (partition-other columns values place kind value there settable.0.no_partition)
    ∙ ap₂ (λ (vectors : List (List ℕ)) (cells : List Value). row_stored s.rowid s.chunk s.slot (id_in columns values) (partition_of columns values) vectors cells)
    (vectors-other columns s.rowid values place kind value there settable.1 none valid) (cells-set columns values place kind value there is)
    ∙ ap (λ (r : StoredRow). with_cell index value r) again

pub vector_stored : (columns : List Column) (s : StoredRow) (place : ℕ) (kind : Kind) (value : Value) (vector : List ℕ) → kind_in columns place ≡ Some kind → is_vector kind ≡ true → vector_of value ≡ Some vector →
    GivesAgain columns s → is_valid_row columns (placed columns s).row ≡ true → stored columns (with_value place value (placed columns s)) ≡ with_vector (before_in is_vector columns place) vector s
vector_stored columns s place kind value vector there is own again valid =
    let values = (placed columns s).row.values in
    let settable = vector_settable kind is in
    let number = before_in is_vector columns place in
    ap₂ (λ (id : Option (List ℕ)) (partition : List Value). row_stored s.rowid s.chunk s.slot id partition (vectors_of (slice_set values place value)) (cells_of columns (slice_set values place value)))
    (id-other columns values place kind value there settable.0.no_text) (partition-other columns values place kind value there settable.0.no_partition)
    ∙ ap₂ (λ (vectors : List (List ℕ)) (cells : List Value). row_stored s.rowid s.chunk s.slot (id_in columns values) (partition_of columns values) vectors cells)
    (vectors-set columns s.rowid values place kind value vector there is own valid) (cells-other columns values place kind value there settable.1)
    ∙ ap (λ (r : StoredRow). with_vector number vector r) again

-- ---- a change that sets a value

-- the change stores the row with the value set
pub record IsSetting (columns : List Column) (place : ℕ) (kind : Kind) (value : Value) (change : StoredRow → StoredRow) : Type 0 where
  pub there : kind_in columns place ≡ Some kind
  pub settable : IsSettable kind
  pub fits : is_cell_value kind value ≡ true
  pub held : IsRepresentable value
  pub few : nat_lt 1 (count_of is_key columns) ≡ false
  pub set : (s : StoredRow) → GivesAgain columns s → is_valid_row columns (placed columns s).row ≡ true → stored columns (with_value place value (placed columns s)) ≡ change s

-- what it makes of a row
record IsWellSet (columns : List Column) (place : ℕ) (value : Value) (change : StoredRow → StoredRow) (s : StoredRow) : Type 0 where
  placed_is : placed columns (change s) ≡ with_value place value (placed columns s)
  again : GivesAgain columns (change s)

well_set : (columns : List Column) (place : ℕ) (kind : Kind) (value : Value) (change : StoredRow → StoredRow) (s : StoredRow) → IsSetting columns place kind value change → GivesAgain columns s →
    is_valid_row columns (placed columns s).row ≡ true → IsWellSet columns place value change s
well_set columns place kind value change s setting again valid =
    let p = with_value place value (placed columns s) in
    let fits = valid-set columns s.rowid (placed columns s).row.values place kind value setting.there setting.settable.no_int setting.fits valid in
    let back = again_placed columns p setting.few fits in
    let set = setting.set s again valid in
    record {
      placed_is = ap (placed columns) (sym set) ∙ back;
      again = subst (λ (r : StoredRow). GivesAgain columns r) set (ap (stored columns) back);
    }

each_well_set : (columns : List Column) (place : ℕ) (kind : Kind) (value : Value) (change : StoredRow → StoredRow) (rows : List StoredRow) → IsSetting columns place kind value change →
    AllByRecursion (GivesAgain columns) rows → list_all (is_valid_row columns) (plain_rows (placed_rows columns rows)) ≡ true → AllByRecursion (IsWellSet columns place value change) rows
each_well_set columns place kind value change [] setting again valid = tt
each_well_set columns place kind value change (s ∷ ss) setting again valid =
    let parts = and_parts (is_valid_row columns (placed columns s).row) (list_all (is_valid_row columns) (plain_rows (placed_rows columns ss))) valid in
    (well_set columns place kind value change s setting again.0 parts.0, each_well_set columns place kind value change ss setting again.1 parts.1)

rows_changed : (columns : List Column) (place : ℕ) (value : Value) (i : ℤ) (change : StoredRow → StoredRow) (rows : List StoredRow) → AllByRecursion (IsWellSet columns place value change) rows →
    placed_rows columns (with_changed i change rows) ≡ changed_placed i place value (placed_rows columns rows)
rows_changed columns place value i change [] well = refl
rows_changed columns place value i change (s ∷ ss) well =
    ap₂ (λ (p : PlacedRow) (ps : List PlacedRow). p ∷ ps) (by_key (int_eq s.rowid i)) (rows_changed columns place value i change ss well.1)
  where
    by_key : (b : Bool) → placed columns (if b then change s else s) ≡ (if b then with_value place value (placed columns s) else placed columns s)
    by_key true = well.0.placed_is
    by_key false = refl

all_changed : (columns : List Column) (place : ℕ) (value : Value) (i : ℤ) (change : StoredRow → StoredRow) (rows : List StoredRow) → AllByRecursion (IsWellSet columns place value change) rows →
    AllByRecursion (GivesAgain columns) rows → AllByRecursion (GivesAgain columns) (with_changed i change rows)
all_changed columns place value i change [] well again = tt
all_changed columns place value i change (s ∷ ss) well again = (by_key (int_eq s.rowid i), all_changed columns place value i change ss well.1 again.1) where
  by_key : (b : Bool) → GivesAgain columns (if b then change s else s)
  by_key true = well.0.again
  by_key false = again.0

-- ---- the rows of the table

abbrev pub value_changed : ℤ → ℕ → Value → Row → Row
value_changed i place value r = if int_eq r.rowid i then record r { values = slice_set r.values place value } else r

plain-changed : (i : ℤ) (place : ℕ) (value : Value) (ps : List PlacedRow) → plain_rows (changed_placed i place value ps) ≡ map (value_changed i place value) (plain_rows ps)
plain-changed i place value [] = refl
plain-changed i place value (p ∷ ps) = ap₂ (λ (r : Row) (rs : List Row). r ∷ rs) (by_key (int_eq p.row.rowid i)) (plain-changed i place value ps) where
  by_key : (b : Bool) → (if b then with_value place value p else p).row ≡ (if b then record p.row { values = slice_set p.row.values place value } else p.row)
  by_key true = refl
  by_key false = refl

keeps_changed : (columns : List Column) (i : ℤ) (place : ℕ) (kind : Kind) (value : Value) → kind_in columns place ≡ Some kind → is_text_key kind ≡ false → Keeps columns (value_changed i place value)
keeps_changed columns i place kind value there no_text = record {
  rowid = λ r. elim (int_eq r.rowid i) as (λ b. (if b then record r { values = slice_set r.values place value } else r).rowid ≡ r.rowid) [ true ↦ refl | false ↦ refl ];
  id = λ r vs. elim (int_eq r.rowid i) as (λ b. same_id columns (if b then record r { values = slice_set r.values place value } else r).values vs ≡ same_id columns r.values vs)
      [ true ↦ same_id-other columns r.values vs place kind value there no_text | false ↦ refl ];
}

values_changed : (columns : List Column) (i : ℤ) (place : ℕ) (kind : Kind) (value : Value) (rows : List Row) → kind_in columns place ≡ Some kind → is_int_key kind ≡ false → is_cell_value kind value ≡ true →
    list_all (is_valid_row columns) rows ≡ true → list_all (is_valid_row columns) (map (value_changed i place value) rows) ≡ true
values_changed columns i place kind value [] there key fits valid = refl
values_changed columns i place kind value (r ∷ rs) there key fits valid =
    let parts = and_parts (is_valid_row columns r) (list_all (is_valid_row columns) rs) valid in
    and_from _ _
    (elim (int_eq r.rowid i) as (λ b. is_valid_row columns (if b then record r { values = slice_set r.values place value } else r) ≡ true)
    [ true ↦ valid-set columns r.rowid r.values place kind value there key fits parts.0 | false ↦ parts.0 ])
    (values_changed columns i place kind value rs there key fits parts.1)

held_changed : (i : ℤ) (place : ℕ) (value : Value) (rows : List Row) → IsRepresentable value → AllByRecursion IsRepresentableRow rows → AllByRecursion IsRepresentableRow (map (value_changed i place value) rows)
held_changed i place value [] held all = tt
held_changed i place value (r ∷ rs) held all = (
  elim (int_eq r.rowid i) as (λ b. IsRepresentableRow (if b then record r { values = slice_set r.values place value } else r))
      [ true ↦ record { rowid = all.0.rowid; values = all-set IsRepresentable r.values place value held all.0.values } | false ↦ all.0 ],
  held_changed i place value rs held all.1,
)

-- ---- places

abbrev placed_changed : ℤ → ℕ → Value → PlacedRow → PlacedRow
placed_changed i place value p = if int_eq p.row.rowid i then with_value place value p else p

same_chunk : (i : ℤ) (place : ℕ) (value : Value) (p : PlacedRow) → (placed_changed i place value p).chunk ≡ p.chunk
same_chunk i place value p = elim (int_eq p.row.rowid i) as (λ b. (if b then with_value place value p else p).chunk ≡ p.chunk) [ true ↦ refl | false ↦ refl ]

same_slot : (i : ℤ) (place : ℕ) (value : Value) (p : PlacedRow) → (placed_changed i place value p).slot ≡ p.slot
same_slot i place value p = elim (int_eq p.row.rowid i) as (λ b. (if b then with_value place value p else p).slot ≡ p.slot) [ true ↦ refl | false ↦ refl ]

same_partition : (columns : List Column) (i : ℤ) (place : ℕ) (kind : Kind) (value : Value) (p : PlacedRow) → kind_in columns place ≡ Some kind → is_partition kind ≡ false →
    partition_of columns (placed_changed i place value p).row.values ≡ partition_of columns p.row.values
same_partition columns i place kind value p there other =
    elim (int_eq p.row.rowid i) as (λ b. partition_of columns (if b then with_value place value p else p).row.values ≡ partition_of columns p.row.values)
    [ true ↦ partition-other columns p.row.values place kind value there other | false ↦ refl ]

places_changed : (size : ℕ) (i : ℤ) (place : ℕ) (value : Value) (ps : List PlacedRow) → list_all (is_place size) ps ≡ true → list_all (is_place size) (changed_placed i place value ps) ≡ true
places_changed size i place value [] all = refl
places_changed size i place value (p ∷ ps) all =
    let parts = and_parts (is_place size p) (list_all (is_place size) ps) all in
    and_from _ _
    (elim (int_eq p.row.rowid i) as (λ b. is_place size (if b then with_value place value p else p) ≡ true) [ true ↦ parts.0 | false ↦ parts.0 ])
    (places_changed size i place value ps parts.1)

pub placed-changed : (table : PlacedTable) (i : ℤ) (place : ℕ) (kind : Kind) (value : Value) → kind_in table.schema.columns place ≡ Some kind → IsSettable kind → is_cell_value kind value ≡ true → IsRepresentable value →
    IsPlaced table → IsPlaced (record table { rows = changed_placed i place value table.rows })
placed-changed table i place kind value there settable fits held sound =
    let columns = table.schema.columns in
    let valid = sound.valid in
    let rows = plain_rows table.rows in
    let changed = valid_map (plain table) (value_changed i place value) valid (keeps_changed columns i place kind value there settable.no_text)
    (values_changed columns i place kind value rows there settable.no_int fits valid.values) (held_changed i place value rows held valid.representable) in
    record {
      valid = subst (λ (rs : List Row). IsValidTable (with_rows (plain table) rs)) (sym (plain-changed i place value table.rows)) changed;
      name = sound.name;
      places = places_changed table.schema.chunk_size i place value table.rows sound.places;
      apart = pairs_map AreApart (placed_changed i place value) table.rows
          (λ p q apart chunk slot. apart (sym (same_chunk i place value p) ∙ chunk ∙ same_chunk i place value q) (sym (same_slot i place value p) ∙ slot ∙ same_slot i place value q)) sound.apart;
      alike = pairs_map (AreAlike columns) (placed_changed i place value) table.rows
          (λ p q alike chunk. same_partition columns i place kind value p there settable.no_partition ∙ alike (sym (same_chunk i place value p) ∙ chunk ∙ same_chunk i place value q)
          ∙ sym (same_partition columns i place kind value q there settable.no_partition)) sound.alike;
    }

-- ---- bytes

-- the bytes that go and those that come, where there is a row
abbrev pub bytes_before : ℕ → Option Row → ℕ
bytes_before place None = 0
bytes_before place (Some r) = side_bytes (slice_index_or r.values place Null)

abbrev pub bytes_after : Value → Option Row → ℕ
bytes_after value None = 0
bytes_after value (Some r) = side_bytes value

none_changed : (i : ℤ) (place : ℕ) (value : Value) (rows : List Row) → has_rowid i rows ≡ false → map (value_changed i place value) rows ≡ rows
none_changed i place value [] none = refl
none_changed i place value (r ∷ rs) none =
    ap₂ (λ (x : Row) (xs : List Row). x ∷ xs)
    (ap (λ (b : Bool). if b then record r { values = slice_set r.values place value } else r) (or_first (int_eq r.rowid i) (has_rowid i rs) none))
    (none_changed i place value rs (or_second (int_eq r.rowid i) (has_rowid i rs) none))

bytes_set : (r : Row) (rs : List Row) (place : ℕ) (value : Value) → place < length r.values →
    rows_side_bytes (record r { values = slice_set r.values place value } ∷ rs) + side_bytes (slice_index_or r.values place Null) ≡ rows_side_bytes (r ∷ rs) + side_bytes value
bytes_set r rs place value low =
    let old = sum_by-cons row_side_bytes r rs in
    let new = sum_by-cons row_side_bytes (record r { values = slice_set r.values place value }) rs in
    let one = sum-set r.values place value low in
    omega (arith, old, new, one)

bytes_behind : (r : Row) (rs others : List Row) (m n : ℕ) → rows_side_bytes others + m ≡ rows_side_bytes rs + n → rows_side_bytes (r ∷ others) + m ≡ rows_side_bytes (r ∷ rs) + n
bytes_behind r rs others m n rest =
    let old = sum_by-cons row_side_bytes r rs in
    let new = sum_by-cons row_side_bytes r others in
    omega (arith, old, new, rest)

pub bytes-changed : (columns : List Column) (i : ℤ) (place : ℕ) (kind : Kind) (value : Value) (rows : List Row) → kind_in columns place ≡ Some kind → list_all (is_valid_row columns) rows ≡ true → is_rising rows ≡ true →
    rows_side_bytes (map (value_changed i place value) rows) + bytes_before place (find (λ r. int_eq r.rowid i) rows) ≡ rows_side_bytes rows + bytes_after value (find (λ r. int_eq r.rowid i) rows)
bytes-changed columns i place kind value [] there valid rising = refl
bytes-changed columns i place kind value (r ∷ rs) there valid rising =
    let parts = and_parts (is_valid_row columns r) (list_all (is_valid_row columns) rs) valid in
    let rises = and_parts (list_all (λ later. int_lt r.rowid later.rowid) rs) (is_rising rs) rising in
    let rest = bytes-changed columns i place kind value rs there parts.1 rises.1 in
    let low = place-low columns r.rowid r.values place kind there parts.0 in
    by_key (int_eq r.rowid i) rest low (λ e. none_changed i place value rs (none_above r.rowid i rs e rises.0)) refl
  where
    by_key : (b : Bool) →
        rows_side_bytes (map (value_changed i place value) rs) + bytes_before place (find (λ x. int_eq x.rowid i) rs) ≡ rows_side_bytes rs + bytes_after value (find (λ x. int_eq x.rowid i) rs) →
        place < length r.values → (int_eq r.rowid i ≡ true → map (value_changed i place value) rs ≡ rs) → int_eq r.rowid i ≡ b →
        rows_side_bytes ((if b then record r { values = slice_set r.values place value } else r) ∷ map (value_changed i place value) rs) + bytes_before place (cond b (Some r) (find (λ x. int_eq x.rowid i) rs))
        ≡ rows_side_bytes (r ∷ rs) + bytes_after value (cond b (Some r) (find (λ x. int_eq x.rowid i) rs))
    by_key true rest low same e =
        ap (λ (xs : List Row). rows_side_bytes (record r { values = slice_set r.values place value } ∷ xs) + side_bytes (slice_index_or r.values place Null)) (same e) ∙ bytes_set r rs place value low
    by_key false rest low same e = bytes_behind r rs (map (value_changed i place value) rs) _ _ rest

-- ---- the table

abbrev pub table_of : List ℕ → Schema → ℤ → List PlacedRow → PlacedTable
table_of name schema top ps = record { name = name; schema = schema; top = top; rows = ps }

pub table-changed : (name : List ℕ) (schema : Schema) (top i : ℤ) (place : ℕ) (kind : Kind) (value : Value) (change : StoredRow → StoredRow) (old new : StoreState) (sides : ℕ) →
    IsSound name schema top old sides → IsSetting schema.columns place kind value change → new.rows ≡ with_changed i change old.rows →
    placed_rows schema.columns new.rows ≡ changed_placed i place value (placed_rows schema.columns old.rows)
table-changed name schema top i place kind value change old new sides sound setting is =
    let columns = schema.columns in
    ap (placed_rows columns) is ∙ rows_changed columns place value i change old.rows (each_well_set columns place kind value change old.rows setting sound.again sound.placed.valid.values)

pub bytes-kept : (name : List ℕ) (schema : Schema) (top i : ℤ) (place : ℕ) (kind : Kind) (value : Value) (change : StoredRow → StoredRow) (old new : StoreState) (sides : ℕ) →
    IsSound name schema top old sides → IsSetting schema.columns place kind value change → new.rows ≡ with_changed i change old.rows →
    rows_side_bytes (plain_rows (placed_rows schema.columns new.rows)) + bytes_before place (find (λ r. int_eq r.rowid i) (plain_rows (placed_rows schema.columns old.rows)))
    ≡ sides + bytes_after value (find (λ r. int_eq r.rowid i) (plain_rows (placed_rows schema.columns old.rows)))
bytes-kept name schema top i place kind value change old new sides sound setting is =
    let columns = schema.columns in
    let rows = plain_rows (placed_rows columns old.rows) in
    let found = find (λ (r : Row). int_eq r.rowid i) rows in
    ap (λ (ps : List PlacedRow). rows_side_bytes (plain_rows ps) + bytes_before place found) (table-changed name schema top i place kind value change old new sides sound setting is)
    ∙ ap (λ (rs : List Row). rows_side_bytes rs + bytes_before place found) (plain-changed i place value (placed_rows columns old.rows))
    ∙ bytes-changed columns i place kind value rows setting.there sound.placed.valid.values sound.placed.valid.rising
    ∙ ap (λ (n : ℕ). n + bytes_after value found) (sym sound.sides)

pub sound-changed : (name : List ℕ) (schema : Schema) (top i : ℤ) (place : ℕ) (kind : Kind) (value : Value) (change : StoredRow → StoredRow) (old new : StoreState) (sides after : ℕ) →
    IsSound name schema top old sides → IsSetting schema.columns place kind value change → new.rows ≡ with_changed i change old.rows → HasSameShape old new →
    after ≡ rows_side_bytes (plain_rows (placed_rows schema.columns new.rows)) → IsSound name schema top new after
sound-changed name schema top i place kind value change old new sides after sound setting is shape bytes =
    let columns = schema.columns in
    let well = each_well_set columns place kind value change old.rows setting sound.again sound.placed.valid.values in
    record {
      placed = subst IsPlaced (ap (λ (ps : List PlacedRow). table_of name schema top ps) (sym (table-changed name schema top i place kind value change old new sides sound setting is)))
          (placed-changed (table_from name schema top old.rows) i place kind value setting.there setting.settable setting.fits setting.held sound.placed);
      size = shape.size ∙ sound.size;
      widths = shape.widths ∙ sound.widths;
      kinds = shape.kinds ∙ sound.kinds;
      again = subst (λ (rs : List StoredRow). AllByRecursion (GivesAgain columns) rs) (sym is) (all_changed columns place value i change old.rows well sound.again);
      sides = bytes;
    }

-- What an update asks of a store, and what the store makes of it.
use Rattle.std.proofs.Common.{◌≡◌, ℕ, zero, suc, ℤ, pos, ◌+◌, ◌-◌, ◌≤◌, Bool, true, false, cond, List, [], ◌∷◌, ◌∙◌, refl, sym, ap, subst, arith, Option, Some, None}
use Rattle.std.specs.Prelude.{◌||◌, find, is_some, nat_lt, slice_index_or, sum_by, if◌then◌else◌}
use Rattle.std.specs.List.{cons_option, slice_get}
use Rattle.std.specs.Option.{option_map}
use Rattle.std.specs.Ordering.{int_eq}
use Rattle.std.proofs.lemmas.Bool.{and_parts}
use Rattle.std.proofs.lemmas.List.Sums.{sum_by-cons}
use Rattle.vec_base.specs.Representable.{IsRepresentable}
use Rattle.vec_base.specs.declared.value.Value.{Value}
use Rattle.vec_base.specs.declared.value.Value.TheVariants.{Null, Int, Text, Blob, Int8, Bits}
use Rattle.chunk_slots.specs.Slots.{vector_of}
use Rattle.row_chunks.specs.Cells.{is_cell, is_cell_value, kinds_of}
use Rattle.row_model.specs.Change.{rows_side_bytes}
use Rattle.row_model.specs.Groups.{before_in, kind_in}
use Rattle.row_model.specs.Schemas.{count_of, is_key, is_vector}
use Rattle.row_model.specs.Valid.{are_valid_values, is_valid_value}
use Rattle.row_model.specs.Values.{side_bytes}
use Rattle.row_model.specs.declared.row.Row.{Row}
use Rattle.row_model.specs.declared.schema.Column.{Column}
use Rattle.row_model.specs.declared.schema.Kind.{Kind}
use Rattle.row_model.specs.declared.schema.Kind.TheVariants.{IntKey, TextKey, Int8Vector, BitVector, IntPartition, TextPartition, IntMeta, TextMeta, BoolMeta, IntAux, TextAux, BlobAux}
use Rattle.row_model.specs.declared.schema.Schema.{Schema}
use Rattle.row_model.proofs.SchemaLaws.{faultless}
use Rattle.row_model.proofs.ValidityRows.{valid_plainly}
use Rattle.row_store.specs.StoredRows.{StoredRow, row_of as stored_of, with_cell, with_changed, with_vector}
use Rattle.row_store.specs.Touches.{StoreState}
use Rattle.shadow_records.specs.PlacedTables.{PlacedRow, plain, plain_rows}
use Rattle.table_version.specs.Kept.{vector_width, widths_of}
use Rattle.table_version.specs.PlacedRows.{table_changed}
use Rattle.table_version.specs.Versions.{VersionState}
use Rattle.table_version.specs.Viewed.{can_set, kind_numbered}
use Rattle.table_version.specs.inner.StoredBytes.{bytes_at, cell_bytes_at}
use Rattle.table_version.specs.inner.StoredTables.{placed, placed_rows, table_from, version_of, IsSound}
use Rattle.table_version.proofs.ChangedLaws.{IsSetting, bytes_after, bytes_before, bytes-kept, cell_settable, cell_stored, table-changed, table_of, vector_settable, vector_stored}
use Rattle.table_version.proofs.RemoveLaws.{bytes_among}
use Rattle.table_version.proofs.SettingLaws.{vector_in}
use Rattle.table_version.proofs.StoredLaws.{find-map, placed-of}
use Rattle.table_version.proofs.ValidityLaws.{found-valid}
use Rattle.table_version.proofs.ViewLaws.{cell_there}
use Rattle.table_version.proofs.WeavingLaws.{no_vector}

-- ---- the column that is set

pub record IsSetPlace (columns : List Column) (column : ℕ) (value : Value) : Type 0 where
  pub kind : Kind
  pub there : kind_in columns (column - 1) ≡ Some kind
  pub sort : (is_vector kind || is_cell kind) ≡ true
  pub fits : is_cell_value kind value ≡ true

less_one : (n : ℕ) → suc n - 1 ≡ n
less_one n = omega arith

pub set_place : (columns : List Column) (column : ℕ) (value : Value) → can_set (kind_numbered columns column) value ≡ true → IsSetPlace columns column value
set_place columns zero value h = absurd cc
set_place columns (suc place) value h = by_kind (kind_in columns place) refl h where
  by_kind : (o : Option Kind) → kind_in columns place ≡ o → can_set o value ≡ true → IsSetPlace columns (suc place) value
  by_kind None e g = absurd cc
  by_kind (Some kind) e g =
      let parts = and_parts (is_vector kind || is_cell kind) (is_cell_value kind value) g in
      record { kind = kind; there = ap (kind_in columns) (less_one place) ∙ e; sort = parts.0; fits = parts.1 }

pub vector_kind : (kind : Kind) (value : Value) (vector : List ℕ) → (is_vector kind || is_cell kind) ≡ true → is_cell_value kind value ≡ true → vector_of value ≡ Some vector → is_vector kind ≡ true
vector_kind kind value vector sort fits own = by_sort (is_vector kind) refl where
  by_sort : (b : Bool) → is_vector kind ≡ b → b ≡ true
  by_sort true e = refl
  by_sort false e = let none = no_vector kind value e fits in absurd cc

pub cell_kind : (kind : Kind) (value : Value) → (is_vector kind || is_cell kind) ≡ true → is_cell_value kind value ≡ true → vector_of value ≡ None → is_cell kind ≡ true
cell_kind kind value sort fits own = by_sort (is_vector kind) refl sort where
  by_sort : (b : Bool) → is_vector kind ≡ b → (b || is_cell kind) ≡ true → is_cell kind ≡ true
  by_sort true e g =
      let there = vector_in kind (pos 0) value e (valid_plainly kind (pos 0) value (vector_settable kind e).0.no_int fits) in
      absurd (none_some there.0 (sym own ∙ there.1))
    where
      none_some : (vector : List ℕ) → None ≡ Some vector → ⊥
      none_some vector h = absurd cc
  by_sort false e g = g

-- ---- what the store asks for

pub cell_taken : (columns : List Column) (place : ℕ) (kind : Kind) → kind_in columns place ≡ Some kind → is_cell kind ≡ true → slice_get (kinds_of columns) (before_in is_cell columns place) ≡ Some kind
cell_taken [] place kind there is = absurd cc
cell_taken (column ∷ columns) zero kind there is =
    let same : column.kind ≡ kind = cc in
    by_sort (is_cell column.kind) (ap is_cell same ∙ is) ∙ ap Some same
  where
    by_sort : (b : Bool) → b ≡ true → slice_get (cond b (column.kind ∷ kinds_of columns) (kinds_of columns)) 0 ≡ Some column.kind
    by_sort true e = refl
    by_sort false e = absurd cc
cell_taken (column ∷ columns) (suc place) kind there is = by_sort (is_cell column.kind) ∙ cell_taken columns place kind there is where
  by_sort : (b : Bool) → slice_get (cond b (column.kind ∷ kinds_of columns) (kinds_of columns)) (cond b (suc (before_in is_cell columns place)) (before_in is_cell columns place))
      ≡ slice_get (kinds_of columns) (before_in is_cell columns place)
  by_sort true = refl
  by_sort false = refl

width_some : (kind : Kind) (width : ℕ) (columns : List Column) (d : ℕ) → vector_width kind ≡ Some width → slice_index_or (cons_option (vector_width kind) (widths_of columns)) 0 d ≡ width
width_some kind width columns d is = ap (λ (o : Option ℕ). slice_index_or (cons_option o (widths_of columns)) 0 d) is

width_behind : (kind : Kind) (widths : List ℕ) (n d : ℕ) → slice_index_or (cons_option (vector_width kind) widths) (cond (is_vector kind) (suc n) n) d ≡ slice_index_or widths n d
width_behind IntKey widths n d = refl
width_behind TextKey widths n d = refl
width_behind (Int8Vector width metric) widths n d = refl
width_behind (BitVector width) widths n d = refl
width_behind IntPartition widths n d = refl
width_behind TextPartition widths n d = refl
width_behind IntMeta widths n d = refl
width_behind TextMeta widths n d = refl
width_behind BoolMeta widths n d = refl
width_behind IntAux widths n d = refl
width_behind TextAux widths n d = refl
width_behind BlobAux widths n d = refl

pub width_at : (columns : List Column) (place : ℕ) (kind : Kind) (width d : ℕ) → kind_in columns place ≡ Some kind → vector_width kind ≡ Some width →
    slice_index_or (widths_of columns) (before_in is_vector columns place) d ≡ width
width_at [] place kind width d there is = absurd cc
width_at (column ∷ columns) zero kind width d there is =
    let same : column.kind ≡ kind = cc in
    width_some column.kind width columns d (ap vector_width same ∙ is)
width_at (column ∷ columns) (suc place) kind width d there is =
    width_behind column.kind (widths_of columns) (before_in is_vector columns place) d ∙ width_at columns place kind width d there is

-- ---- what the store makes

few_keys : (name : List ℕ) (schema : Schema) (top : ℤ) (store : StoreState) (sides : ℕ) → IsSound name schema top store sides → nat_lt 1 (count_of is_key schema.columns) ≡ false
few_keys name schema top store sides sound = (faultless schema sound.placed.valid.schema.rules).keys

pub cell_setting : (name : List ℕ) (schema : Schema) (top : ℤ) (store : StoreState) (sides column : ℕ) (value : Value) → IsSound name schema top store sides → (at : IsSetPlace schema.columns column value) →
    IsRepresentable value → vector_of value ≡ None → IsSetting schema.columns (column - 1) at.kind value (with_cell (before_in is_cell schema.columns (column - 1)) value)
cell_setting name schema top store sides column value sound at held none =
    let is = cell_kind at.kind value at.sort at.fits none in
    record {
      there = at.there;
      settable = (cell_settable at.kind is).0;
      fits = at.fits;
      held = held;
      few = few_keys name schema top store sides sound;
      set = λ s again valid. cell_stored schema.columns s (column - 1) at.kind value at.there is none again valid;
    }

pub vector_setting : (name : List ℕ) (schema : Schema) (top : ℤ) (store : StoreState) (sides column : ℕ) (value : Value) (vector : List ℕ) → IsSound name schema top store sides →
    (at : IsSetPlace schema.columns column value) → IsRepresentable value → vector_of value ≡ Some vector →
    IsSetting schema.columns (column - 1) at.kind value (with_vector (before_in is_vector schema.columns (column - 1)) vector)
vector_setting name schema top store sides column value vector sound at held own =
    let is = vector_kind at.kind value vector at.sort at.fits own in
    record {
      there = at.there;
      settable = (vector_settable at.kind is).0;
      fits = at.fits;
      held = held;
      few = few_keys name schema top store sides sound;
      set = λ s again valid. vector_stored schema.columns s (column - 1) at.kind value vector at.there is own again valid;
    }

-- the table of the clause
pub update_table : (v : VersionState) (name : List ℕ) (schema : Schema) (top i : ℤ) (column : ℕ) (kind : Kind) (value : Value) (change : StoredRow → StoredRow) (old new : StoreState) (sides : ℕ) →
    version_of name schema top old ≡ v → IsSound name schema top old sides → IsSetting schema.columns (column - 1) kind value change → new.rows ≡ with_changed i change old.rows →
    table_from name schema top new.rows ≡ table_changed v.table i column value
update_table v name schema top i column kind value change old new sides view sound setting is =
    subst (λ (w : VersionState). table_from name schema top new.rows ≡ table_changed w.table i column value) view
    (ap (λ (ps : List PlacedRow). table_of name schema top ps) (table-changed name schema top i (column - 1) kind value change old new sides sound setting is))

-- ---- bytes

plain_of : (columns : List Column) (rows : List StoredRow) (i : ℤ) → find (λ r. int_eq r.rowid i) (plain_rows (placed_rows columns rows)) ≡ option_map (λ s. (placed columns s).row) (stored_of i rows)
plain_of columns rows i =
    find-map (λ (p : PlacedRow). p.row) (λ (r : Row). int_eq r.rowid i) (placed_rows columns rows)
    ∙ ap (λ (o : Option PlacedRow). option_map (λ (p : PlacedRow). p.row) o) (placed-of columns rows i)
    ∙ both (stored_of i rows)
  where
    both : (o : Option StoredRow) → option_map (λ (p : PlacedRow). p.row) (option_map (placed columns) o) ≡ option_map (λ s. (placed columns s).row) o
    both None = refl
    both (Some s) = refl

cell_before : (columns : List Column) (rows : List StoredRow) (i : ℤ) (place index : ℕ) (kind : Kind) → kind_in columns place ≡ Some kind → is_cell kind ≡ true → index ≡ before_in is_cell columns place →
    bytes_before place (find (λ r. int_eq r.rowid i) (plain_rows (placed_rows columns rows))) ≡ cell_bytes_at index (stored_of i rows)
cell_before columns rows i place index kind there is same = ap (bytes_before place) (plain_of columns rows i) ∙ each (stored_of i rows) where
  each : (o : Option StoredRow) → bytes_before place (option_map (λ s. (placed columns s).row) o) ≡ cell_bytes_at index o
  each None = refl
  each (Some s) = ap side_bytes (sym (cell_there columns s place kind there is) ∙ ap (λ n. slice_index_or s.cells n Null) (sym same))

cell_after : (columns : List Column) (rows : List StoredRow) (i : ℤ) (value : Value) → bytes_after value (find (λ r. int_eq r.rowid i) (plain_rows (placed_rows columns rows))) ≡ (if is_some (stored_of i rows) then side_bytes value else 0)
cell_after columns rows i value = ap (bytes_after value) (plain_of columns rows i) ∙ each (stored_of i rows) where
  each : (o : Option StoredRow) → bytes_after value (option_map (λ s. (placed columns s).row) o) ≡ (if is_some o then side_bytes value else 0)
  each None = refl
  each (Some s) = refl

one_among : (values : List Value) (n : ℕ) → side_bytes (slice_index_or values n Null) ≤ sum_by side_bytes values
one_among [] n = omega arith
one_among (value ∷ values) zero = let one = sum_by-cons side_bytes value values in omega (arith, one)
one_among (value ∷ values) (suc n) =
    let one = sum_by-cons side_bytes value values in
    let rest = one_among values n in
    omega (arith, one, rest)

pub cell_among : (name : List ℕ) (schema : Schema) (top : ℤ) (store : StoreState) (sides : ℕ) (i : ℤ) (index : ℕ) → IsSound name schema top store sides → cell_bytes_at index (stored_of i store.rows) ≤ sides
cell_among name schema top store sides i index sound = all_of (stored_of i store.rows) (bytes_among name schema top store sides i sound) where
  all_of : (o : Option StoredRow) → bytes_at o ≤ sides → cell_bytes_at index o ≤ sides
  all_of None low = omega arith
  all_of (Some s) low =
      let one = one_among s.cells index in
      omega (arith, one, low)

-- the bytes after a change of a cell
pub cell_total : (name : List ℕ) (schema : Schema) (top i : ℤ) (column index : ℕ) (kind : Kind) (value : Value) (change : StoredRow → StoredRow) (old new : StoreState) (sides before added : ℕ) →
    IsSound name schema top old sides → IsSetting schema.columns (column - 1) kind value change → is_cell kind ≡ true → index ≡ before_in is_cell schema.columns (column - 1) →
    new.rows ≡ with_changed i change old.rows → before ≡ cell_bytes_at index (stored_of i old.rows) → added ≡ (if is_some (stored_of i old.rows) then side_bytes value else 0) →
    sides - before + added ≡ rows_side_bytes (plain_rows (placed_rows schema.columns new.rows))
cell_total name schema top i column index kind value change old new sides before added sound setting is same rows old_bytes new_bytes =
    let columns = schema.columns in
    let whole = bytes-kept name schema top i (column - 1) kind value change old new sides sound setting rows in
    let less = old_bytes ∙ sym (cell_before columns old.rows i (column - 1) index kind setting.there is same) in
    let more = new_bytes ∙ sym (cell_after columns old.rows i value) in
    let low = cell_among name schema top old sides i index sound in
    omega (arith, whole, less, more, low, old_bytes)

-- ---- vectors have no such bytes

vector_sides : (value : Value) (vector : List ℕ) → vector_of value ≡ Some vector → side_bytes value ≡ 0
vector_sides (Int8 v) vector own = refl
vector_sides (Bits v) vector own = refl
vector_sides Null vector own = refl
vector_sides (Int n) vector own = refl
vector_sides (Text text) vector own = absurd cc
vector_sides (Blob bytes) vector own = absurd cc

place_sides : (columns : List Column) (rowid : ℤ) (values : List Value) (place : ℕ) (kind : Kind) → kind_in columns place ≡ Some kind → is_vector kind ≡ true → are_valid_values columns rowid values ≡ true →
    side_bytes (slice_index_or values place Null) ≡ 0
place_sides [] rowid values place kind there is valid = absurd cc
place_sides (column ∷ columns) rowid [] place kind there is valid = absurd cc
place_sides (column ∷ columns) rowid (v ∷ vs) zero kind there is valid =
    let same : column.kind ≡ kind = cc in
    let own = vector_in column.kind rowid v (ap is_vector same ∙ is) (and_parts (is_valid_value column.kind rowid v) (are_valid_values columns rowid vs) valid).0 in
    vector_sides v own.0 own.1
place_sides (column ∷ columns) rowid (v ∷ vs) (suc place) kind there is valid =
    place_sides columns rowid vs place kind there is (and_parts (is_valid_value column.kind rowid v) (are_valid_values columns rowid vs) valid).1

pub vector_total : (name : List ℕ) (schema : Schema) (top i : ℤ) (column : ℕ) (kind : Kind) (value : Value) (vector : List ℕ) (change : StoredRow → StoredRow) (old new : StoreState) (sides : ℕ) →
    IsSound name schema top old sides → IsSetting schema.columns (column - 1) kind value change → is_vector kind ≡ true → vector_of value ≡ Some vector →
    new.rows ≡ with_changed i change old.rows → sides ≡ rows_side_bytes (plain_rows (placed_rows schema.columns new.rows))
vector_total name schema top i column kind value vector change old new sides sound setting is own rows =
    let columns = schema.columns in
    let whole = bytes-kept name schema top i (column - 1) kind value change old new sides sound setting rows in
    let less = none_before (find (λ r. int_eq r.rowid i) (plain_rows (placed_rows columns old.rows))) refl in
    let more = none_after (find (λ r. int_eq r.rowid i) (plain_rows (placed_rows columns old.rows))) in
    omega (arith, whole, less, more)
  where
    none_before : (o : Option Row) → find (λ r. int_eq r.rowid i) (plain_rows (placed_rows schema.columns old.rows)) ≡ o → bytes_before (column - 1) o ≡ 0
    none_before None e = refl
    none_before (Some r) e =
        let found = found-valid (plain (table_from name schema top old.rows)) i r sound.placed.valid e in
        place_sides schema.columns r.rowid r.values (column - 1) kind setting.there is found.valid

    none_after : (o : Option Row) → bytes_after value o ≡ 0
    none_after None = refl
    none_after (Some r) = vector_sides value vector own

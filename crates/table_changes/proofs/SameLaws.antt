-- Chunks and rows whose records are the same in two tables, and those that have none.
use Rattle.std.proofs.Common.{◌≡◌, ℕ, zero, suc, ◌+◌, ◌<◌, ◌≤◌, ◌==◌, ℤ, pos, negsuc, List, [], ◌∷◌, get_or, nat_lt, cond, Bool, true, false, ◌||◌, Option, Some, None, is_some, ⊎_elim, refl, sym, ap, ◌∙◌, subst, arith}
use Rattle.std.specs.List.{flat_map, AllPairs}
use Rattle.std.specs.Option.{option_map}
use Rattle.std.proofs.lemmas.Bool.{false≢true, and_parts, and_from, and_left, cases_order, or_cases, eqb-true, eq-eqb, ltb-false}
use Rattle.row_model.specs.Schemas.{count_of, is_auxiliary, is_metadata, is_vector}
use Rattle.row_model.specs.declared.schema.Column.{Column}
use Rattle.row_model.specs.declared.schema.Kind.{Kind}
use Rattle.row_model.specs.declared.schema.Schema.{Schema}
use Rattle.vec_base.specs.declared.value.Value.{Value}
use Rattle.shadow_records.specs.Cells.{bitmap, laid, long_text, partition_value_bytes, side_body}
use Rattle.shadow_records.specs.PlacedTables.{PlacedRow, PlacedTable, AreAlike, IsPlaced, first_in, is_at, is_place, partition_of, row_at, row_of}
use Rattle.shadow_records.specs.Records.{ColumnAt, at_zero, body_at, cells_body, chunk_body, column_at, is_bits_column, is_used, nth_column, of_chunk, of_first, place_body, rowid_cell, slot_bit, slot_cell, value_body}
use Rattle.record_bodies.proofs.ColumnLaws.{count_first}
use Rattle.record_bodies.proofs.FindLaws.{Stands, found_all, found_passes, found_stands, some_is}
use Rattle.table_changes.specs.inner.Groups.{group_count}
use Rattle.table_changes.specs.inner.KeySets.{AreSame, is_below, is_chunk_kind, is_row_kind}

-- ---- kinds

pub by_chunk_kind : (P : ℕ → Type 0) (kind : ℕ) → is_chunk_kind kind ≡ true → P 2 → P 4 → P 5 → P kind
by_chunk_kind P kind is two four five =
    ⊎_elim (λ e. subst P (sym (eqb-true kind 2 e)) two)
    (λ e. ⊎_elim (λ f. subst P (sym (eqb-true kind 4 f)) four) (λ f. subst P (sym (eqb-true kind 5 f)) five) (or_cases (kind == 4) (kind == 5) e))
    (or_cases (kind == 2) (kind == 4 || kind == 5) is)

pub by_row_kind : (P : ℕ → Type 0) (kind : ℕ) → is_row_kind kind ≡ true → P 3 → P 6 → P 7 → P kind
by_row_kind P kind is three six seven =
    ⊎_elim (λ e. subst P (sym (eqb-true kind 3 e)) three)
    (λ e. ⊎_elim (λ f. subst P (sym (eqb-true kind 6 f)) six) (λ f. subst P (sym (eqb-true kind 7 f)) seven) (or_cases (kind == 6) (kind == 7) e))
    (or_cases (kind == 3) (kind == 6 || kind == 7) is)

-- ---- no records

none_first : (o : Option PlacedRow) → of_first (λ first. None) o ≡ None
none_first None = refl
none_first (Some first) = refl

no_zero : (b : ℤ) → at_zero b None ≡ None
no_zero (pos zero) = refl
no_zero (pos (suc n)) = refl
no_zero (negsuc n) = refl

no_column_body : (body : Value → Option (List ℕ)) (o : Option PlacedRow) → value_body body o None ≡ None
no_column_body body None = refl
no_column_body body (Some placed) = refl

-- a chunk without rows has no records
pub no_chunk : (table : PlacedTable) (kind chunk : ℕ) (b : ℤ) → is_chunk_kind kind ≡ true → first_in table.rows chunk ≡ None → body_at table kind (pos chunk) b ≡ None
no_chunk table kind chunk b is none = by_chunk_kind (λ k. body_at table k (pos chunk) b ≡ None) kind is
    (ap (of_first (chunk_body table chunk b)) none)
    (ap (of_first (λ first. option_map (cells_body table chunk) (column_at is_vector table b))) none)
    (ap (of_first (λ first. option_map (cells_body table chunk) (column_at is_metadata table b))) none)

pub no_negative : (table : PlacedTable) (kind n : ℕ) (b : ℤ) → is_chunk_kind kind ≡ true → body_at table kind (negsuc n) b ≡ None
no_negative table kind n b is = by_chunk_kind (λ k. body_at table k (negsuc n) b ≡ None) kind is refl refl refl

-- a rowid without a row has none
pub no_row : (table : PlacedTable) (kind : ℕ) (rowid b : ℤ) → is_row_kind kind ≡ true → row_of table.rows rowid ≡ None → body_at table kind rowid b ≡ None
no_row table kind rowid b is none = by_row_kind (λ k. body_at table k rowid b ≡ None) kind is
    (ap (λ o. at_zero b (place_body table.schema.columns o)) none ∙ no_zero b)
    (ap (λ o. value_body long_text o (column_at is_metadata table b)) none)
    (ap (λ o. value_body side_body o (column_at is_auxiliary table b)) none)

-- ---- columns past the last one

counted : (sort : Kind → Bool) (place : ℕ) (columns : List Column) (before : ℕ) → count_of sort columns ≤ before → nth_column sort place columns before ≡ None
counted sort place [] before few = refl
counted sort place (column ∷ columns) zero few = by (sort column.kind) refl (counted sort (suc place) columns zero) where
  by : (b : Bool) → sort column.kind ≡ b → (count_of sort columns ≤ 0 → nth_column sort (suc place) columns zero ≡ None) →
      cond b (Some (record { place = place; kind = column.kind })) (nth_column sort (suc place) columns zero) ≡ None
  by true e rest = (let first = count_first sort column columns ∙ ap (λ b. cond b 1 0 + count_of sort columns) e in absurd (omega (arith, first, few)))
  by false e rest = (let first = count_first sort column columns ∙ ap (λ b. cond b 1 0 + count_of sort columns) e in rest (omega (arith, first, few)))
counted sort place (column ∷ columns) (suc before) few = by (sort column.kind) refl (counted sort (suc place) columns before) (counted sort (suc place) columns (suc before)) where
  by : (b : Bool) → sort column.kind ≡ b → (count_of sort columns ≤ before → nth_column sort (suc place) columns before ≡ None) → (count_of sort columns ≤ suc before → nth_column sort (suc place) columns (suc before) ≡ None) →
      cond b (nth_column sort (suc place) columns before) (nth_column sort (suc place) columns (suc before)) ≡ None
  by true e less rest = (let first = count_first sort column columns ∙ ap (λ b. cond b 1 0 + count_of sort columns) e in less (omega (arith, first, few)))
  by false e less rest = (let first = count_first sort column columns ∙ ap (λ b. cond b 1 0 + count_of sort columns) e in rest (omega (arith, first, few)))

no_column : (sort : Kind → Bool) (table : PlacedTable) (b : ℤ) → is_below (count_of sort table.schema.columns) b ≡ false → column_at sort table b ≡ None
no_column sort table (pos n) past = counted sort 0 table.schema.columns n (ltb-false n (count_of sort table.schema.columns) past)
no_column sort table (negsuc n) past = refl

no_part : (table : PlacedTable) (chunk : ℕ) (b : ℤ) (o : Option PlacedRow) → is_below 3 b ≡ false → of_first (chunk_body table chunk b) o ≡ None
no_part table chunk (pos zero) o past = absurd (false≢true (sym past))
no_part table chunk (pos (suc zero)) o past = absurd (false≢true (sym past))
no_part table chunk (pos (suc (suc zero))) o past = absurd (false≢true (sym past))
no_part table chunk (pos (suc (suc (suc n)))) o past = none_first o
no_part table chunk (negsuc n) o past = none_first o

past_zero : (b : ℤ) (body : Option (List ℕ)) → is_below 1 b ≡ false → at_zero b body ≡ None
past_zero (pos zero) body past = absurd (false≢true (sym past))
past_zero (pos (suc n)) body past = refl
past_zero (negsuc n) body past = refl

of_chunk_none : (table : PlacedTable) (body : ℕ → PlacedRow → Option (List ℕ)) (a : ℤ) → ((chunk : ℕ) (o : Option PlacedRow) → of_first (body chunk) o ≡ None) → of_chunk table body a ≡ None
of_chunk_none table body (pos chunk) none = none chunk (first_in table.rows chunk)
of_chunk_none table body (negsuc n) none = refl

no_cells : (table : PlacedTable) (chunk : ℕ) (o : Option PlacedRow) (column : Option ColumnAt) → column ≡ None → of_first (λ first. option_map (cells_body table chunk) column) o ≡ None
no_cells table chunk o column none = ap (λ c. of_first (λ first. option_map (cells_body table chunk) c) o) none ∙ none_first o

-- a group has no records past its last one
pub no_more_of_chunk : (table : PlacedTable) (kind : ℕ) (a b : ℤ) → is_chunk_kind kind ≡ true → is_below (group_count table.schema.columns kind) b ≡ false → body_at table kind a b ≡ None
no_more_of_chunk table kind a b is = by_chunk_kind (λ k. is_below (group_count table.schema.columns k) b ≡ false → body_at table k a b ≡ None) kind is
    (λ past. of_chunk_none table (λ chunk. chunk_body table chunk b) a (λ chunk o. no_part table chunk b o past))
    (λ past. of_chunk_none table (λ chunk first. option_map (cells_body table chunk) (column_at is_vector table b)) a (λ chunk o. no_cells table chunk o (column_at is_vector table b) (no_column is_vector table b past)))
    (λ past. of_chunk_none table (λ chunk first. option_map (cells_body table chunk) (column_at is_metadata table b)) a (λ chunk o. no_cells table chunk o (column_at is_metadata table b) (no_column is_metadata table b past)))

pub no_more_of_row : (table : PlacedTable) (kind : ℕ) (a b : ℤ) → is_row_kind kind ≡ true → is_below (group_count table.schema.columns kind) b ≡ false → body_at table kind a b ≡ None
no_more_of_row table kind a b is = by_row_kind (λ k. is_below (group_count table.schema.columns k) b ≡ false → body_at table k a b ≡ None) kind is
    (λ past. past_zero b (place_body table.schema.columns (row_of table.rows a)) past)
    (λ past. ap (value_body long_text (row_of table.rows a)) (no_column is_metadata table b past) ∙ no_column_body long_text (row_of table.rows a))
    (λ past. ap (value_body side_body (row_of table.rows a)) (no_column is_auxiliary table b past) ∙ no_column_body side_body (row_of table.rows a))

-- ---- rows of a chunk

first_row : (rows : List PlacedRow) (c : ℕ) (p : PlacedRow) → first_in rows c ≡ Some p → row_at rows c p.slot ≡ Some p
first_row [] c p is = absurd cc
first_row (q ∷ rows) c p is = by (q.chunk == c) refl is (first_row rows c p) where
  by : (b : Bool) → (q.chunk == c) ≡ b → cond b (Some q) (first_in rows c) ≡ Some p → (first_in rows c ≡ Some p → row_at rows c p.slot ≡ Some p) → row_at (q ∷ rows) c p.slot ≡ Some p
  by true e here rest =
      let same : q ≡ p = some_is here in
      let P : PlacedRow → Type 0 = λ x. row_at (q ∷ rows) c x.slot ≡ Some x in
      subst P same (ap (λ b. cond b (Some q) (row_at rows c q.slot)) (and_from (q.chunk == c) (q.slot == q.slot) e (eq-eqb q.slot q.slot refl)))
  by false e later rest = ap (λ b. cond b (Some q) (row_at rows c p.slot)) (and_left (q.chunk == c) (q.slot == p.slot) e) ∙ rest later

pub none_in : (rows : List PlacedRow) (c s : ℕ) → first_in rows c ≡ None → row_at rows c s ≡ None
none_in [] c s is = refl
none_in (q ∷ rows) c s is = by (q.chunk == c) refl is (none_in rows c s) where
  by : (b : Bool) → (q.chunk == c) ≡ b → cond b (Some q) (first_in rows c) ≡ None → (first_in rows c ≡ None → row_at rows c s ≡ None) → row_at (q ∷ rows) c s ≡ None
  by true e here rest = absurd cc
  by false e later rest = ap (λ b. cond b (Some q) (row_at rows c s)) (and_left (q.chunk == c) (q.slot == s) e) ∙ rest later

in_chunk : (rows : List PlacedRow) (c s : ℕ) (p : PlacedRow) → row_at rows c s ≡ Some p → p.chunk ≡ c
in_chunk rows c s p is = eqb-true p.chunk c (and_parts (p.chunk == c) (p.slot == s) (found_passes (is_at c s) rows p is)).0

stand_alike : (columns : List Column) (rows : List PlacedRow) (p q : PlacedRow) → AllPairs (AreAlike columns) rows → Stands rows p → Stands rows q → p.chunk ≡ q.chunk → partition_of columns p.row.values ≡ partition_of columns q.row.values
stand_alike columns rows p q alike there other same = ⊎_elim equal (λ e. ⊎_elim before behind e) (cases_order there.index other.index) where
  P : PlacedRow → PlacedRow → Type 0
  P x y = x.chunk ≡ y.chunk → partition_of columns x.row.values ≡ partition_of columns y.row.values

  equal : there.index ≡ other.index → partition_of columns p.row.values ≡ partition_of columns q.row.values
  equal e = let one : p ≡ q = sym (there.is p) ∙ ap (λ i. get_or rows i p) e ∙ other.is p in ap (λ (x : PlacedRow). partition_of columns x.row.values) one

  before : there.index < other.index → partition_of columns p.row.values ≡ partition_of columns q.row.values
  before less =
      let all = alike there.index other.index p less other.within in
      subst (λ (x : PlacedRow). P x q) (there.is p) (subst (λ (y : PlacedRow). P (get_or rows there.index p) y) (other.is p) all) same

  behind : other.index < there.index → partition_of columns p.row.values ≡ partition_of columns q.row.values
  behind less =
      let all = alike other.index there.index p less there.within in
      sym (subst (λ (y : PlacedRow). P y p) (other.is p) (subst (λ (x : PlacedRow). P (get_or rows other.index p) x) (there.is p) all) (sym same))

abbrev values_in : List Column → PlacedRow → List Value
values_in columns placed = partition_of columns placed.row.values

-- where the rows of a chunk are the same, the partition values of its first row are
first_same : (columns : List Column) (xs ys : List PlacedRow) (c : ℕ) → AllPairs (AreAlike columns) ys → ((s : ℕ) → row_at xs c s ≡ row_at ys c s) → option_map (values_in columns) (first_in xs c) ≡ option_map (values_in columns) (first_in ys c)
first_same columns xs ys c alike same = by (first_in xs c) refl (first_in ys c) refl where
  by : (o : Option PlacedRow) → first_in xs c ≡ o → (r : Option PlacedRow) → first_in ys c ≡ r → option_map (values_in columns) o ≡ option_map (values_in columns) r
  by None e None f = refl
  by None e (Some q) f = (let there = sym (first_row ys c q f) ∙ sym (same q.slot) ∙ none_in xs c q.slot e in absurd cc)
  by (Some p) e None f = (let there = sym (first_row xs c p e) ∙ same p.slot ∙ none_in ys c p.slot f in absurd cc)
  by (Some p) e (Some q) f =
      let there : row_at ys c p.slot ≡ Some p = sym (same p.slot) ∙ first_row xs c p e in
      let chunk : q.chunk ≡ c = eqb-true q.chunk c (found_passes (λ (placed : PlacedRow). placed.chunk == c) ys q f) in
      ap Some (stand_alike columns ys p q alike (found_stands (is_at c p.slot) ys p there) (found_stands (λ (placed : PlacedRow). placed.chunk == c) ys q f) (in_chunk ys c p.slot p there ∙ sym chunk))

some_same : (columns : List Column) (o r : Option PlacedRow) → option_map (values_in columns) o ≡ option_map (values_in columns) r → is_some o ≡ is_some r
some_same columns None None e = refl
some_same columns None (Some q) e = absurd cc
some_same columns (Some p) None e = absurd cc
some_same columns (Some p) (Some q) e = refl

const_first : (x : Option (List ℕ)) (o r : Option PlacedRow) → is_some o ≡ is_some r → of_first (λ first. x) o ≡ of_first (λ first. x) r
const_first x None None e = refl
const_first x None (Some q) e = absurd (false≢true e)
const_first x (Some p) None e = absurd (false≢true (sym e))
const_first x (Some p) (Some q) e = refl

abbrev of_values : Option (List Value) → Option (List ℕ)
of_values None = None
of_values (Some values) = Some (flat_map partition_value_bytes values)

by_values : (table : PlacedTable) (chunk : ℕ) (o : Option PlacedRow) → of_first (chunk_body table chunk (pos zero)) o ≡ of_values (option_map (values_in table.schema.columns) o)
by_values table chunk None = refl
by_values table chunk (Some first) = refl

-- ---- the same records

module _ (name name' : List ℕ) (schema : Schema) (top top' : ℤ) (xs ys : List PlacedRow) where
  abbrev one : PlacedTable
  one = record { name = name; schema = schema; top = top; rows = xs }

  abbrev other : PlacedTable
  other = record { name = name'; schema = schema; top = top'; rows = ys }

  module _ (c : ℕ) (alike : AllPairs (AreAlike schema.columns) ys) (same : (s : ℕ) → row_at xs c s ≡ row_at ys c s) where
    slots : ◌≡◌ {A = ℕ → Option PlacedRow} (row_at xs c) (row_at ys c)
    slots = λ i s. same s i

    values : option_map (values_in schema.columns) (first_in xs c) ≡ option_map (values_in schema.columns) (first_in ys c)
    values = first_same schema.columns xs ys c alike same

    there : is_some (first_in xs c) ≡ is_some (first_in ys c)
    there = some_same schema.columns (first_in xs c) (first_in ys c) values

    parts : (b : ℤ) → of_first (chunk_body one c b) (first_in xs c) ≡ of_first (chunk_body other c b) (first_in ys c)
    parts (pos zero) = by_values one c (first_in xs c) ∙ ap of_values values ∙ sym (by_values other c (first_in ys c))
    parts (pos (suc zero)) =
        const_first (Some (bitmap (λ slot. is_used (row_at xs c slot)) schema.chunk_size)) (first_in xs c) (first_in ys c) there
        ∙ ap (λ (f : ℕ → Option PlacedRow). of_first (λ first. Some (bitmap (λ slot. is_used (f slot)) schema.chunk_size)) (first_in ys c)) slots
    parts (pos (suc (suc zero))) =
        const_first (Some (laid (λ slot. rowid_cell (row_at xs c slot)) schema.chunk_size)) (first_in xs c) (first_in ys c) there
        ∙ ap (λ (f : ℕ → Option PlacedRow). of_first (λ first. Some (laid (λ slot. rowid_cell (f slot)) schema.chunk_size)) (first_in ys c)) slots
    parts (pos (suc (suc (suc n)))) = none_first (first_in xs c) ∙ sym (none_first (first_in ys c))
    parts (negsuc n) = none_first (first_in xs c) ∙ sym (none_first (first_in ys c))

    cells : (column : ColumnAt) → cells_body one c column ≡ cells_body other c column
    cells column = ap (λ (f : ℕ → Option PlacedRow). cond (is_bits_column column.kind) (bitmap (λ slot. slot_bit column (f slot)) schema.chunk_size) (laid (λ slot. slot_cell column (f slot)) schema.chunk_size)) slots

    columns : (sort : Kind → Bool) (b : ℤ) → of_first (λ first. option_map (cells_body one c) (column_at sort one b)) (first_in xs c) ≡ of_first (λ first. option_map (cells_body other c) (column_at sort other b)) (first_in ys c)
    columns sort b =
        const_first (option_map (cells_body one c) (column_at sort one b)) (first_in xs c) (first_in ys c) there
        ∙ ap (λ x. of_first (λ first. x) (first_in ys c)) (found (column_at sort one b) (column_at sort other b) (at b))
      where
        at : (b : ℤ) → column_at sort one b ≡ column_at sort other b
        at (pos n) = refl
        at (negsuc n) = refl

        found : (o r : Option ColumnAt) → o ≡ r → option_map (cells_body one c) o ≡ option_map (cells_body other c) r
        found o r e = mapped o ∙ ap (option_map (cells_body other c)) e where
          mapped : (o : Option ColumnAt) → option_map (cells_body one c) o ≡ option_map (cells_body other c) o
          mapped None = refl
          mapped (Some column) = ap Some (cells column)

    chunk_of_rows : (kind : ℕ) (b : ℤ) → is_chunk_kind kind ≡ true → body_at one kind (pos c) b ≡ body_at other kind (pos c) b
    chunk_of_rows kind b is = by_chunk_kind (λ k. body_at one k (pos c) b ≡ body_at other k (pos c) b) kind is (parts b) (columns is_vector b) (columns is_metadata b)

  row_of_rows : (rowid : ℤ) → row_of xs rowid ≡ row_of ys rowid → (kind : ℕ) (b : ℤ) → is_row_kind kind ≡ true → body_at one kind rowid b ≡ body_at other kind rowid b
  row_of_rows rowid same kind b is = by_row_kind (λ k. body_at one k rowid b ≡ body_at other k rowid b) kind is
      (ap (λ o. at_zero b (place_body schema.columns o)) same)
      (ap (λ o. value_body long_text o (column_at is_metadata one b)) same ∙ ap (value_body long_text (row_of ys rowid)) (at is_metadata b))
      (ap (λ o. value_body side_body o (column_at is_auxiliary one b)) same ∙ ap (value_body side_body (row_of ys rowid)) (at is_auxiliary b))
    where
      at : (sort : Kind → Bool) (b : ℤ) → column_at sort one b ≡ column_at sort other b
      at sort (pos n) = refl
      at sort (negsuc n) = refl

with_schema : PlacedTable → Schema → PlacedTable
with_schema table schema = record { name = table.name; schema = schema; top = table.top; rows = table.rows }

-- the records of a chunk are the same where its rows are
pub same_chunk : (older newer : PlacedTable) (c : ℕ) → IsPlaced newer → older.schema ≡ newer.schema → ((s : ℕ) → row_at older.rows c s ≡ row_at newer.rows c s) → AreSame is_chunk_kind (Some older) (Some newer) (pos c)
same_chunk older newer c placed schema same key is at =
    ap (λ a. body_at older key.kind a key.b) at
    ∙ ap (λ (s : Schema). body_at (record { name = older.name; schema = s; top = older.top; rows = older.rows }) key.kind (pos c) key.b) schema
    ∙ chunk_of_rows older.name newer.name newer.schema older.top newer.top older.rows newer.rows c placed.alike same key.kind key.b is
    ∙ ap (λ a. body_at newer key.kind a key.b) (sym at)

-- the records of a row are the same where the row is
pub same_row : (older newer : PlacedTable) (rowid : ℤ) → older.schema ≡ newer.schema → row_of older.rows rowid ≡ row_of newer.rows rowid → AreSame is_row_kind (Some older) (Some newer) rowid
same_row older newer rowid schema same key is at =
    ap (λ a. body_at older key.kind a key.b) at
    ∙ ap (λ (s : Schema). body_at (record { name = older.name; schema = s; top = older.top; rows = older.rows }) key.kind rowid key.b) schema
    ∙ row_of_rows older.name newer.name newer.schema older.top newer.top older.rows newer.rows rowid same key.kind key.b is
    ∙ ap (λ a. body_at newer key.kind a key.b) (sym at)

-- chunks have positive numbers
pub no_chunk_zero : (table : PlacedTable) → IsPlaced table → first_in table.rows 0 ≡ None
no_chunk_zero table placed = by (first_in table.rows 0) refl where
  by : (o : Option PlacedRow) → first_in table.rows 0 ≡ o → o ≡ None
  by None e = refl
  by (Some p) e =
      let zero_chunk : p.chunk ≡ 0 = eqb-true p.chunk 0 (found_passes (λ (placed : PlacedRow). placed.chunk == 0) table.rows p e) in
      let place = found_all (λ (placed : PlacedRow). placed.chunk == 0) (is_place table.schema.chunk_size) table.rows p placed.places e in
      let low = (and_parts _ _ place).0 in
      absurd (false≢true (sym (ap (λ n. nat_lt 0 n) zero_chunk) ∙ low))

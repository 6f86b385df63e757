-- What the items of a row are read from, and how many vectors that reads.
use Rattle.std.proofs.Common.{◌≡◌, ℕ, ℤ, zero, suc, ◌-◌, ◌+◌, ◌<◌, ◌≤◌, Bool, true, false, cond, List, [], ◌∷◌, ◌++◌, length, map, get_or, refl, sym, ap, ap₂, subst, ◌∙◌, arith, Option, Some}
use Rattle.std.specs.Prelude.{◌^◌, if◌then◌else◌, slice_index_or, take}
use Rattle.std.specs.List.{AllByRecursion, count_by, list_all}
use Rattle.std.specs.Option.{option_map}
use Rattle.std.specs.Ordering.{int_eq}
use Rattle.std.proofs.lemmas.Bool.{and_parts}
use Rattle.std.proofs.lemmas.List.{map-append, take_more}
use Rattle.std.proofs.lemmas.List.Sums.{sum_by-cons, sum_by_more, sum_by_more_le}
use Rattle.chunk_slots.specs.Slots.{vector_of}
use Rattle.vec_base.specs.Counts.{raised, summed}
use Rattle.vec_base.specs.declared.value.Value.{Value}
use Rattle.vec_base.specs.declared.value.Value.TheVariants.{Null, Int, Text, Blob, Int8, Bits}
use Rattle.row_model.specs.Answer.{Near, item, items_of}
use Rattle.row_model.specs.ColumnNames.{is_of, item_places, key_place, other_places, place_of}
use Rattle.row_model.specs.Groups.{kind_in}
use Rattle.row_model.specs.Schemas.{is_key, is_vector}
use Rattle.row_model.specs.Valid.{are_valid_values, is_valid_row, is_valid_value}
use Rattle.row_model.specs.Values.{column_value as value_of_column}
use Rattle.row_model.specs.declared.schema.Column.{Column}
use Rattle.row_model.specs.declared.schema.Kind.{Kind}
use Rattle.row_model.specs.declared.schema.Kind.TheVariants.{IntKey, TextKey, Int8Vector, BitVector, IntPartition, TextPartition, IntMeta, TextMeta, BoolMeta, IntAux, TextAux, BlobAux}
use Rattle.row_model.specs.declared.schema.Metric.{Metric}
use Rattle.row_model.specs.declared.schema.Place.{Place}
use Rattle.row_model.specs.declared.schema.Place.TheVariants.{Declared}
use Rattle.row_model.specs.declared.statement.Items.{Items}
use Rattle.row_model.specs.declared.statement.Items.TheVariants.{All, Named}
use Rattle.knn_plan.specs.PlannedColumns.{planned_column}
use Rattle.knn_plan.specs.Plans.{IsPlanFor, Planned}
use Rattle.knn_plan.specs.declared.column.PlannedColumn.{PlannedColumn}
use Rattle.shadow_records.specs.PlacedTables.{PlacedRow, plain_rows, row_of, value_in}
use Rattle.table_query.specs.Items.{items_at, near_at, read_at, vector_count}
use Rattle.table_query.specs.Read.{IsThere}
use Rattle.table_query.proofs.ReadLaws.{one_less, place_there}
use Rattle.table_version.specs.Viewed.{ViewedRow, is_kind_of, kind_numbered}

-- ---- vectors

pub above_zero : (columns : List Column) (number : ℕ) (kind : Kind) → kind_numbered columns number ≡ Some kind → 0 < number
above_zero columns zero kind there = absurd cc
above_zero columns (suc place) kind there = omega arith

pub kind_there : (columns : List Column) (number : ℕ) (kind : Kind) → kind_numbered columns number ≡ Some kind → kind_in columns (number - 1) ≡ Some kind
kind_there columns zero kind there = absurd cc
kind_there columns (suc place) kind there = ap (kind_in columns) (sym (one_less place)) ∙ there

pub vectors_there : (columns : List Column) (number : ℕ) (kind : Kind) → kind_numbered columns number ≡ Some kind → is_vector kind ≡ true → is_kind_of is_vector (kind_in columns (number - 1)) ≡ true
vectors_there columns number kind there vectors = ap (is_kind_of is_vector) (kind_there columns number kind there) ∙ vectors

valid_at : (columns : List Column) (rowid : ℤ) (values : List Value) (place : ℕ) (kind : Kind) → are_valid_values columns rowid values ≡ true → kind_in columns place ≡ Some kind →
    is_valid_value kind rowid (slice_index_or values place Null) ≡ true
valid_at [] rowid values place kind valid there = absurd cc
valid_at (column ∷ columns) rowid [] place kind valid there = absurd cc
valid_at (column ∷ columns) rowid (value ∷ values) zero kind valid there =
    let same : column.kind ≡ kind = cc in
    ap (λ (k : Kind). is_valid_value k rowid value) (sym same) ∙ (and_parts _ _ valid).0
valid_at (column ∷ columns) rowid (value ∷ values) (suc place) kind valid there = valid_at columns rowid values place kind (and_parts _ _ valid).1 there

int8_from : (width : ℕ) (metric : Metric) (rowid : ℤ) (value : Value) (bytes : List ℕ) → is_valid_value (Int8Vector width metric) rowid value ≡ true → vector_of value ≡ Some bytes → Int8 bytes ≡ value
int8_from width metric rowid Null bytes valid is = absurd cc
int8_from width metric rowid (Int n) bytes valid is = absurd cc
int8_from width metric rowid (Text text) bytes valid is = absurd cc
int8_from width metric rowid (Blob blob) bytes valid is = absurd cc
int8_from width metric rowid (Int8 vector) bytes valid is = let same : vector ≡ bytes = cc in ap Int8 (sym same)
int8_from width metric rowid (Bits vector) bytes valid is = absurd cc

bits_from : (width : ℕ) (rowid : ℤ) (value : Value) (bytes : List ℕ) → is_valid_value (BitVector width) rowid value ≡ true → vector_of value ≡ Some bytes → Bits bytes ≡ value
bits_from width rowid Null bytes valid is = absurd cc
bits_from width rowid (Int n) bytes valid is = absurd cc
bits_from width rowid (Text text) bytes valid is = absurd cc
bits_from width rowid (Blob blob) bytes valid is = absurd cc
bits_from width rowid (Int8 vector) bytes valid is = absurd cc
bits_from width rowid (Bits vector) bytes valid is = let same : vector ≡ bytes = cc in ap Bits (sym same)

-- the vector that was read, as the column's value
pub int8_read : (view : ViewedRow) (number : ℕ) (kind : Kind) (width : ℕ) (metric : Metric) (bytes : List ℕ) → kind ≡ Int8Vector width metric → kind_numbered view.columns number ≡ Some kind →
    is_valid_row view.columns view.placed.row ≡ true → vector_of (value_in (number - 1) view.placed) ≡ Some bytes → Int8 bytes ≡ value_of_column number kind view.placed.row
int8_read view number kind width metric bytes is there valid read =
    let here : is_valid_value kind view.placed.row.rowid (value_in (number - 1) view.placed) ≡ true =
    valid_at view.columns view.placed.row.rowid view.placed.row.values (number - 1) kind valid (kind_there view.columns number kind there) in
    int8_from width metric view.placed.row.rowid (value_in (number - 1) view.placed) bytes (ap (λ (k : Kind). is_valid_value k view.placed.row.rowid (value_in (number - 1) view.placed)) (sym is) ∙ here) read
    ∙ sym (ap (λ (k : Kind). value_of_column number k view.placed.row) is)

pub bits_read : (view : ViewedRow) (number : ℕ) (kind : Kind) (bytes : List ℕ) → is_vector kind ≡ true → ((width : ℕ) (metric : Metric) → kind ≡ Int8Vector width metric → ⊥) → kind_numbered view.columns number ≡ Some kind →
    is_valid_row view.columns view.placed.row ≡ true → vector_of (value_in (number - 1) view.placed) ≡ Some bytes → Bits bytes ≡ value_of_column number kind view.placed.row
bits_read view number kind bytes vectors other there valid read =
    by_kind kind refl vectors other (valid_at view.columns view.placed.row.rowid view.placed.row.values (number - 1) kind valid (kind_there view.columns number kind there))
  where
    by_kind : (k : Kind) → kind ≡ k → is_vector k ≡ true → ((width : ℕ) (metric : Metric) → k ≡ Int8Vector width metric → ⊥) → is_valid_value k view.placed.row.rowid (value_in (number - 1) view.placed) ≡ true →
        Bits bytes ≡ value_of_column number k view.placed.row
    by_kind IntKey is on away here = absurd cc
    by_kind TextKey is on away here = absurd cc
    by_kind (Int8Vector width metric) is on away here = absurd (away width metric refl)
    by_kind (BitVector width) is on away here = bits_from width view.placed.row.rowid (value_in (number - 1) view.placed) bytes here read
    by_kind IntPartition is on away here = absurd cc
    by_kind TextPartition is on away here = absurd cc
    by_kind IntMeta is on away here = absurd cc
    by_kind TextMeta is on away here = absurd cc
    by_kind BoolMeta is on away here = absurd cc
    by_kind IntAux is on away here = absurd cc
    by_kind TextAux is on away here = absurd cc
    by_kind BlobAux is on away here = absurd cc

-- ---- the places of items

-- the columns from a number on
abbrev StandFrom : List Column → ℕ → List Column → Type 0
StandFrom columns n rest = (j : ℕ) (kind : Kind) → kind_in rest j ≡ Some kind → kind_numbered columns (n + j) ≡ Some kind

first_stands : (columns : List Column) (n : ℕ) (column : Column) (rest : List Column) → StandFrom columns n (column ∷ rest) → IsThere columns (Declared n column.kind)
first_stands columns n column rest stand = let same : n + 0 ≡ n = omega arith in ap (kind_numbered columns) (sym same) ∙ stand 0 column.kind refl

rest_stand : (columns : List Column) (n : ℕ) (column : Column) (rest : List Column) → StandFrom columns n (column ∷ rest) → StandFrom columns (n + 1) rest
rest_stand columns n column rest stand j kind is = let same : n + 1 + j ≡ n + suc j = omega arith in ap (kind_numbered columns) same ∙ stand (suc j) kind is

key_there : (columns : List Column) (n : ℕ) (rest : List Column) → StandFrom columns n rest → IsThere columns (key_place n rest)
key_there columns n [] stand = tt
key_there columns n (column ∷ rest) stand =
    elim (is_key column.kind) as (λ b. IsThere columns (if b then Declared n column.kind else key_place (n + 1) rest))
    [ true ↦ first_stands columns n column rest stand | false ↦ key_there columns (n + 1) rest (rest_stand columns n column rest stand) ]

others_there : (columns : List Column) (n : ℕ) (rest : List Column) → StandFrom columns n rest → AllByRecursion (IsThere columns) (other_places n rest)
others_there columns n [] stand = tt
others_there columns n (column ∷ rest) stand =
    let later = others_there columns (n + 1) rest (rest_stand columns n column rest stand) in
    elim (is_key column.kind) as (λ b. AllByRecursion (IsThere columns) (if b then other_places (n + 1) rest else Declared n column.kind ∷ other_places (n + 1) rest))
    [ true ↦ later | false ↦ (first_stands columns n column rest stand, later) ]

names_there : (columns : List Column) (names : List (List ℕ)) → AllByRecursion (IsThere columns) (map (place_of columns) names)
names_there columns [] = tt
names_there columns (name ∷ names) = (place_there columns name (place_of columns name) refl, names_there columns names)

all_stand : (columns : List Column) → StandFrom columns 1 columns
all_stand columns j kind is = let same : suc j ≡ 1 + j = omega arith in ap (kind_numbered columns) (sym same) ∙ is

places_there : (columns : List Column) (items : Items) → AllByRecursion (IsThere columns) (item_places columns items)
places_there columns All = (key_there columns 1 columns (all_stand columns), others_there columns 1 columns (all_stand columns))
places_there columns (Named names) = names_there columns names

planned_there : (columns : List Column) (places : List Place) → AllByRecursion (IsThere columns) places → AllByRecursion (λ (c : PlannedColumn). IsThere columns c.place) (map (planned_column columns) places)
planned_there columns [] all = tt
planned_there columns (place ∷ places) all = (all.0, planned_there columns places all.1)

pub items_there : (columns : List Column) (plan : Planned) → IsPlanFor columns plan → AllByRecursion (λ (c : PlannedColumn). IsThere columns c.place) plan.items
items_there columns plan is =
    subst (λ (cs : List PlannedColumn). AllByRecursion (λ (c : PlannedColumn). IsThere columns c.place) cs) (sym is.items) (planned_there columns (item_places columns plan.select.items) (places_there columns plan.select.items))

-- ---- rows

pub row_valid : (columns : List Column) (rows : List PlacedRow) (rowid : ℤ) (p : PlacedRow) → list_all (is_valid_row columns) (plain_rows rows) ≡ true → row_of rows rowid ≡ Some p → is_valid_row columns p.row ≡ true
row_valid columns [] rowid p valid found = absurd cc
row_valid columns (x ∷ xs) rowid p valid found = by_first (int_eq x.row.rowid rowid) found (λ later. row_valid columns xs rowid p (and_parts _ _ valid).1 later) where
  by_first : (b : Bool) → cond b (Some x) (row_of xs rowid) ≡ Some p → (row_of xs rowid ≡ Some p → is_valid_row columns p.row ≡ true) → is_valid_row columns p.row ≡ true
  by_first true h rest = let same : x ≡ p = cc in ap (λ (q : PlacedRow). is_valid_row columns q.row) (sym same) ∙ (and_parts _ _ valid).0
  by_first false h rest = rest h

-- ---- counting reads

abbrev one_if : Bool → ℕ
one_if b = cond b 1 0

pub none_read : (n : ℕ) → n < 2 ^ 64 → n ≡ summed n 0
none_read n fits = grind (arith, fits)

more_read : (b : Bool) (old reads count : ℕ) → reads ≡ summed old count → (if b then raised reads else reads) ≡ summed old (count + one_if b)
more_read true old reads count is = rw is (grind arith)
more_read false old reads count is = is ∙ ap (summed old) (omega arith)

most_read : (b : Bool) (old reads count whole : ℕ) → reads ≡ summed old count → count + one_if b ≤ whole → (if b then raised reads else reads) ≤ old + whole
most_read true old reads count whole is low = rw is (grind (arith, low))
most_read false old reads count whole is low = rw is (grind (arith, low))

abbrev pub is_vector_item : PlannedColumn → Bool
is_vector_item c = is_of is_vector c.place

pub items_more : (near : Near) (columns : List PlannedColumn) (i : ℕ) (d : PlannedColumn) (values : List Value) (value : Value) → i < length columns →
    values ≡ map (λ (c : PlannedColumn). item near c.place) (take i columns) → value ≡ item near (get_or columns i d).place → values ++ value ∷ [] ≡ map (λ (c : PlannedColumn). item near c.place) (take (i + 1) columns)
items_more near columns i d values value within is new =
    ap₂ (λ (vs : List Value) (v : Value). vs ++ v ∷ []) is new
    ∙ sym (ap (map (λ (c : PlannedColumn). item near c.place)) (take_more columns i d within) ∙ map-append (λ (c : PlannedColumn). item near c.place) (take i columns) (get_or columns i d ∷ []))

pub reads_more : (columns : List PlannedColumn) (i : ℕ) (d : PlannedColumn) (old reads : ℕ) → i < length columns → reads ≡ summed old (count_by is_vector_item (take i columns)) →
    read_at (get_or columns i d).place reads ≡ summed old (count_by is_vector_item (take (i + 1) columns))
reads_more columns i d old reads within is =
    more_read (is_vector_item (get_or columns i d)) old reads (count_by is_vector_item (take i columns)) is ∙ ap (summed old) (sym (sum_by_more (λ (c : PlannedColumn). one_if (is_vector_item c)) columns i d within))

pub reads_most : (columns : List PlannedColumn) (i : ℕ) (d : PlannedColumn) (old reads : ℕ) → i < length columns → reads ≡ summed old (count_by is_vector_item (take i columns)) →
    read_at (get_or columns i d).place reads ≤ old + count_by is_vector_item columns
reads_most columns i d old reads within is =
    most_read (is_vector_item (get_or columns i d)) old reads (count_by is_vector_item (take i columns)) (count_by is_vector_item columns) is (sum_by_more_le (λ (c : PlannedColumn). one_if (is_vector_item c)) columns i d within)

-- ---- from columns to places

planned_items : (columns : List Column) (near : Near) (places : List Place) → map (λ (c : PlannedColumn). item near c.place) (map (planned_column columns) places) ≡ items_of places near
planned_items columns near [] = refl
planned_items columns near (place ∷ places) = ap (λ vs. item near place ∷ vs) (planned_items columns near places)

planned_count : (columns : List Column) (places : List Place) → count_by is_vector_item (map (planned_column columns) places) ≡ vector_count places
planned_count columns [] = refl
planned_count columns (place ∷ places) =
    sum_by-cons (λ (c : PlannedColumn). one_if (is_vector_item c)) (planned_column columns place) (map (planned_column columns) places)
    ∙ ap (λ n. one_if (is_of is_vector place) + n) (planned_count columns places) ∙ sym (sum_by-cons (λ (p : Place). one_if (is_of is_vector p)) place places)

pub items_shown : (columns : List Column) (plan : Planned) (near : Near) → IsPlanFor columns plan → map (λ (c : PlannedColumn). item near c.place) plan.items ≡ items_of (item_places columns plan.select.items) near
items_shown columns plan near is = ap (map (λ (c : PlannedColumn). item near c.place)) is.items ∙ planned_items columns near (item_places columns plan.select.items)

pub vectors_counted : (columns : List Column) (plan : Planned) → IsPlanFor columns plan → count_by is_vector_item plan.items ≡ vector_count (item_places columns plan.select.items)
vectors_counted columns plan is = ap (count_by is_vector_item) is.items ∙ planned_count columns (item_places columns plan.select.items)

pub items_found : (columns : List Column) (plan : Planned) (distance : ℕ) (o : Option PlacedRow) (p : PlacedRow) (values : List Value) → IsPlanFor columns plan → o ≡ Some p →
    values ≡ map (λ (c : PlannedColumn). item (near_at distance p.row) c.place) plan.items → option_map (items_at columns plan.select.items distance) o ≡ Some values
items_found columns plan distance o p values is found here =
    ap (option_map (items_at columns plan.select.items distance)) found ∙ ap Some (sym (items_shown columns plan (near_at distance p.row) is)) ∙ ap Some (sym here)

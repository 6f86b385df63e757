-- Records of a chunk by their units.
use Rattle.std.proofs.Common.{◌≡◌, ℕ, ◌<◌, ◌≤◌, ◌^◌, pos, List, length, cond, Bool, true, false, ◌||◌, refl, sym, ap, ◌∙◌, subst, arith}
use Rattle.std.specs.Option.{option_map}
use Rattle.std.specs.declared.option.Option.{Option}
use Rattle.std.specs.declared.option.Option.TheVariants.{Some, None}
use Rattle.row_model.specs.Groups.{kind_in}
use Rattle.row_model.specs.Schemas.{has_role, is_metadata, is_same_role, is_vector, role_of}
use Rattle.row_model.specs.declared.schema.Column.{Column}
use Rattle.row_model.specs.declared.schema.Kind.{Kind}
use Rattle.row_model.specs.declared.schema.Kind.TheVariants.{IntKey, TextKey, Int8Vector, BitVector, IntPartition, TextPartition, IntMeta, TextMeta, BoolMeta, IntAux, TextAux, BlobAux}
use Rattle.row_model.specs.declared.schema.Role.{Role}
use Rattle.row_model.specs.declared.schema.Role.TheVariants.{Key, Vector, Partition, Metadata, Auxiliary}
use Rattle.shadow_records.specs.Cells.{laid}
use Rattle.shadow_records.specs.PlacedTables.{IsPlaced, PlacedRow, PlacedTable, first_in, row_at}
use Rattle.shadow_records.specs.Records.{body_of, cells_body, column_at, is_bits_column, nth_column, of_first}
use Rattle.table_bodies.specs.Units.{HasCells, IsUnitRecord, cells_record, seen, unit, unit_count, unit_key, unit_width}
use Rattle.table_bodies.specs.declared.column_place.ColumnPlace.{ColumnPlace}
use Rattle.table_bodies.specs.declared.unit_record.UnitRecord.{UnitRecord}
use Rattle.table_bodies.specs.declared.unit_record.UnitRecord.TheVariants.{Used, Rowids, Truths, Cells}
use Rattle.table_bodies.specs.inner.Parts.{HasUnits, StandsAt}
use Rattle.table_bodies.proofs.ColumnLaws.{column_stands}
use Rattle.table_bodies.proofs.WidthLaws.{HasWholeCells, IsWidth, column-width, rowid_cell-length, slot_cell-length}

-- ---- columns

vector_role : (role : Role) → is_same_role role Vector ≡ true → role ≡ Vector
vector_role Key e = absurd cc
vector_role Vector e = refl
vector_role Partition e = absurd cc
vector_role Metadata e = absurd cc
vector_role Auxiliary e = absurd cc

metadata_role : (role : Role) → is_same_role role Metadata ≡ true → role ≡ Metadata
metadata_role Key e = absurd cc
metadata_role Vector e = absurd cc
metadata_role Partition e = absurd cc
metadata_role Metadata e = refl
metadata_role Auxiliary e = absurd cc

pub bits_kind : (kind : Kind) → is_bits_column kind ≡ true → kind ≡ BoolMeta
bits_kind IntKey e = absurd cc
bits_kind TextKey e = absurd cc
bits_kind (Int8Vector width metric) e = absurd cc
bits_kind (BitVector width) e = absurd cc
bits_kind IntPartition e = absurd cc
bits_kind TextPartition e = absurd cc
bits_kind IntMeta e = absurd cc
bits_kind TextMeta e = absurd cc
bits_kind BoolMeta e = refl
bits_kind IntAux e = absurd cc
bits_kind TextAux e = absurd cc
bits_kind BlobAux e = absurd cc

-- a column with cells stands at its place
pub stands_at : (columns : List Column) (column : ColumnPlace) → length columns < 2 ^ 8 → HasCells columns column → StandsAt columns column
stands_at columns column few cells =
    let nth = column_stands (has_role (role_of column.kind)) 0 columns column.before (seen column) cells.stands in
    let at = nth.place in
    let within = nth.within in
    let same : nth.index ≡ column.place = omega (arith, at) in
    record { kind = subst (λ k. kind_in columns k ≡ Some column.kind) same nth.there; low = omega (arith, at, within, few) }

-- the column of a role that is found has cells, where columns of the role do
pub found_cells : (table : PlacedTable) (role : Role) (column : ColumnPlace) → HasUnits role → nth_column (has_role role) 0 table.schema.columns column.before ≡ Some (seen column) →
    HasCells table.schema.columns column
found_cells table Key column has found = absurd has
found_cells table Partition column has found = absurd has
found_cells table Auxiliary column has found = absurd has
found_cells table Vector column has found =
    let nth = column_stands (has_role Vector) 0 table.schema.columns column.before (seen column) found in
    let role = vector_role (role_of column.kind) nth.kind in
    record { celled = ap (λ b. b || is_metadata column.kind) nth.kind; stands = subst (λ r. nth_column (has_role r) 0 table.schema.columns column.before ≡ Some (seen column)) (sym role) found }
found_cells table Metadata column has found =
    let nth = column_stands (has_role Metadata) 0 table.schema.columns column.before (seen column) found in
    let role = metadata_role (role_of column.kind) nth.kind in
    record { celled = ap (λ r. is_same_role r Vector || is_same_role r Metadata) role; stands = subst (λ r. nth_column (has_role r) 0 table.schema.columns column.before ≡ Some (seen column)) (sym role) found }

-- the record of its cells is one of units
pub cells_units : (columns : List Column) (column : ColumnPlace) → HasCells columns column → IsUnitRecord columns (cells_record column)
cells_units columns column cells = by (is_bits_column column.kind) refl where
  by : (b : Bool) → is_bits_column column.kind ≡ b → IsUnitRecord columns (cond b (Truths column) (Cells column))
  by true e = (e, cells)
  by false e = (e, cells)

pub vector_record : (table : PlacedTable) (column : ColumnPlace) → column_at is_vector table (pos column.before) ≡ Some (seen column) → IsUnitRecord table.schema.columns (cells_record column)
vector_record table column found = cells_units table.schema.columns column (found_cells table Vector column tt found)

pub metadata_record : (table : PlacedTable) (column : ColumnPlace) → column_at is_metadata table (pos column.before) ≡ Some (seen column) → IsUnitRecord table.schema.columns (cells_record column)
metadata_record table column found = cells_units table.schema.columns column (found_cells table Metadata column tt found)

-- ---- bodies

first_mapped : (body : List ℕ) (o : Option PlacedRow) → of_first (λ first. Some body) o ≡ option_map (λ first. body) o
first_mapped body None = refl
first_mapped body (Some first) = refl

-- the cells of a column are the units of its record
pub units_of_cells : (table : PlacedTable) (chunk : ℕ) (column : ColumnPlace) → cells_body table chunk (seen column) ≡ laid (unit (cells_record column) table chunk) (unit_count (cells_record column) table.schema.chunk_size)
units_of_cells table chunk column = by (is_bits_column column.kind) where
  by : (b : Bool) → cond b (laid (unit (Truths column) table chunk) (unit_count (Truths column) table.schema.chunk_size)) (laid (unit (Cells column) table chunk) (unit_count (Cells column) table.schema.chunk_size))
      ≡ laid (unit (cond b (Truths column) (Cells column)) table chunk) (unit_count (cond b (Truths column) (Cells column)) table.schema.chunk_size)
  by true = refl
  by false = refl

vector_body : (table : PlacedTable) (chunk : ℕ) (column : ColumnPlace) → nth_column is_vector 0 table.schema.columns column.before ≡ Some (seen column) →
    of_first (λ first. option_map (cells_body table chunk) (nth_column is_vector 0 table.schema.columns column.before)) (first_in table.rows chunk) ≡ option_map (λ first. cells_body table chunk (seen column)) (first_in table.rows chunk)
vector_body table chunk column found =
    ap (λ o. of_first (λ first. option_map (cells_body table chunk) o) (first_in table.rows chunk)) found ∙ first_mapped (cells_body table chunk (seen column)) (first_in table.rows chunk)

metadata_body : (table : PlacedTable) (chunk : ℕ) (column : ColumnPlace) → nth_column is_metadata 0 table.schema.columns column.before ≡ Some (seen column) →
    of_first (λ first. option_map (cells_body table chunk) (nth_column is_metadata 0 table.schema.columns column.before)) (first_in table.rows chunk) ≡ option_map (λ first. cells_body table chunk (seen column)) (first_in table.rows chunk)
metadata_body table chunk column found =
    ap (λ o. of_first (λ first. option_map (cells_body table chunk) o) (first_in table.rows chunk)) found ∙ first_mapped (cells_body table chunk (seen column)) (first_in table.rows chunk)

record_is : (column : ColumnPlace) (b : Bool) → is_bits_column column.kind ≡ b → cells_record column ≡ cond b (Truths column) (Cells column)
record_is column b e = ap (λ t. cond t (Truths column) (Cells column)) e

abbrev units_in : PlacedTable → ℕ → UnitRecord → Option PlacedRow → Option (List ℕ)
units_in table chunk kept o = option_map (λ first. laid (unit kept table chunk) (unit_count kept table.schema.chunk_size)) o

-- the body of such a record, where the chunk has a row
pub unit_body : (table : PlacedTable) (number chunk : ℕ) (kept : UnitRecord) → IsUnitRecord table.schema.columns kept →
    body_of table (unit_key number chunk kept) ≡ option_map (λ first. laid (unit kept table chunk) (unit_count kept table.schema.chunk_size)) (first_in table.rows chunk)
unit_body table number chunk Used is = first_mapped (laid (unit Used table chunk) (unit_count Used table.schema.chunk_size)) (first_in table.rows chunk)
unit_body table number chunk Rowids is = first_mapped (laid (unit Rowids table chunk) (unit_count Rowids table.schema.chunk_size)) (first_in table.rows chunk)
unit_body table number chunk (Truths column) is =
    let role : role_of column.kind ≡ Metadata = ap role_of (bits_kind column.kind is.0) in
    let found : nth_column is_metadata 0 table.schema.columns column.before ≡ Some (seen column) = subst (λ r. nth_column (has_role r) 0 table.schema.columns column.before ≡ Some (seen column)) role is.1.stands in
    metadata_body table chunk column found
    ∙ ap (λ bytes. option_map (λ (first : PlacedRow). bytes) (first_in table.rows chunk)) (units_of_cells table chunk column)
    ∙ ap (λ kept. units_in table chunk kept (first_in table.rows chunk)) (record_is column true is.0)
unit_body table number chunk (Cells column) is = by (is_vector column.kind) refl where
  rest : option_map (λ (first : PlacedRow). cells_body table chunk (seen column)) (first_in table.rows chunk) ≡ units_in table chunk (Cells column) (first_in table.rows chunk)
  rest =
      ap (λ bytes. option_map (λ (first : PlacedRow). bytes) (first_in table.rows chunk)) (units_of_cells table chunk column)
      ∙ ap (λ kept. units_in table chunk kept (first_in table.rows chunk)) (record_is column false is.0)

  metadata : is_vector column.kind ≡ false → is_metadata column.kind ≡ true
  metadata e = sym (ap (λ b. b || is_metadata column.kind) e) ∙ is.1.celled

  by : (b : Bool) → is_vector column.kind ≡ b → body_of table (record { table = number; kind = cond b 4 5; a = pos chunk; b = pos column.before }) ≡ units_in table chunk (Cells column) (first_in table.rows chunk)
  by true e = vector_body table chunk column (subst (λ r. nth_column (has_role r) 0 table.schema.columns column.before ≡ Some (seen column)) (vector_role (role_of column.kind) e) is.1.stands) ∙ rest
  by false e = metadata_body table chunk column (subst (λ r. nth_column (has_role r) 0 table.schema.columns column.before ≡ Some (seen column)) (metadata_role (role_of column.kind) (metadata e)) is.1.stands) ∙ rest

-- ---- widths

whole_cells : (table : PlacedTable) (column : ColumnPlace) → IsUnitRecord table.schema.columns (Cells column) → HasWholeCells table (seen column)
whole_cells table column is = record { role = has_role (role_of column.kind); before = column.before; is = is.1.stands; whole = rw (is.1.celled, is.0) refl }

-- each unit has the width of its record
pub unit_wide : (table : PlacedTable) → IsPlaced table → (kept : UnitRecord) → IsUnitRecord table.schema.columns kept → (chunk at : ℕ) → length (unit kept table chunk at) ≡ unit_width kept
unit_wide table placed Used is chunk at = refl
unit_wide table placed Rowids is chunk at = rowid_cell-length (row_at table.rows chunk at)
unit_wide table placed (Truths column) is chunk at = refl
unit_wide table placed (Cells column) is chunk at = slot_cell-length table (seen column) placed (whole_cells table column is) chunk at

-- a unit has a byte at least and 8,192 at most
pub width_bounds : (table : PlacedTable) → IsPlaced table → (kept : UnitRecord) → IsUnitRecord table.schema.columns kept → IsWidth (unit_width kept)
width_bounds table placed Used is = record { least = omega arith; most = omega arith }
width_bounds table placed Rowids is = record { least = omega arith; most = omega arith }
width_bounds table placed (Truths column) is = record { least = omega arith; most = omega arith }
width_bounds table placed (Cells column) is = column-width table (seen column) placed (whole_cells table column is)

pub width_low : (table : PlacedTable) → IsPlaced table → (kept : UnitRecord) → IsUnitRecord table.schema.columns kept → unit_width kept ≤ 8192
width_low table placed kept is = (width_bounds table placed kept is).most

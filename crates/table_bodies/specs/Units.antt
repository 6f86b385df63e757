-- Records of a chunk that are made of units of one width behind each other: a byte of eight bits, or a cell.
use Rattle.std.specs.Prelude.{◌≡◌, ℕ, ◌+◌, ◌*◌, ◌/◌, pos, true, false, cond, ◌||◌, List, [], ◌∷◌, Some, ⊤}
use Rattle.vec_base.specs.declared.shadow.ShadowKey.{ShadowKey}
use Rattle.row_model.specs.Schemas.{has_role, is_metadata, is_vector, role_of}
use Rattle.row_model.specs.declared.schema.Column.{Column}
use Rattle.row_model.specs.declared.schema.Kind.{Kind}
use Rattle.row_model.specs.declared.schema.Role.{Role}
use Rattle.shadow_records.specs.Cells.{cell_width, of_bits}
use Rattle.shadow_records.specs.Keys.{key_of}
use Rattle.shadow_records.specs.PlacedTables.{PlacedTable, row_at}
use Rattle.shadow_records.specs.Records.{ColumnAt, is_bits_column, is_used, nth_column, rowid_cell, slot_bit, slot_cell}
use Rattle.shadow_records.specs.declared.kinds.TheConstants.{CHUNK_RECORDS, METADATA_RECORDS, VECTOR_RECORDS}
use Rattle.table_bodies.specs.declared.column_place.ColumnPlace.{ColumnPlace}
use Rattle.table_bodies.specs.declared.unit_record.UnitRecord.{UnitRecord}
use Rattle.table_bodies.specs.declared.unit_record.UnitRecord.TheVariants.{Used, Rowids, Truths, Cells}

-- ---- columns

abbrev pub seen : ColumnPlace → ColumnAt
seen column = record { place = column.place; kind = column.kind }

-- the column stands where it says, behind so many others of the role
abbrev pub StandsIn : Role → List Column → ColumnPlace → Type 0
StandsIn role columns column = nth_column (has_role role) 0 columns column.before ≡ Some (seen column)

-- ---- units

-- the unit at a place of the record: what eight slots, or one slot, have there
abbrev pub unit : UnitRecord → PlacedTable → ℕ → ℕ → List ℕ
unit Used table chunk at = of_bits (λ bit. is_used (row_at table.rows chunk (8 * at + bit))) 8 ∷ []
unit Rowids table chunk at = rowid_cell (row_at table.rows chunk at)
unit (Truths column) table chunk at = of_bits (λ bit. slot_bit (seen column) (row_at table.rows chunk (8 * at + bit))) 8 ∷ []
unit (Cells column) table chunk at = slot_cell (seen column) (row_at table.rows chunk at)

-- how many units the record has, where a chunk has so many slots
abbrev pub unit_count : UnitRecord → ℕ → ℕ
unit_count Used size = size / 8
unit_count Rowids size = size
unit_count (Truths column) size = size / 8
unit_count (Cells column) size = size

-- how many bytes a unit has
abbrev pub unit_width : UnitRecord → ℕ
unit_width Used = 1
unit_width Rowids = 8
unit_width (Truths column) = 1
unit_width (Cells column) = cell_width column.kind

-- ---- records of a chunk

-- the record of a column of vectors or of metadata
abbrev pub cells_record : ColumnPlace → UnitRecord
cells_record column = cond (is_bits_column column.kind) (Truths column) (Cells column)

-- the kind of such a record
abbrev pub cells_kind : Kind → ℕ
cells_kind kind = cond (is_vector kind) VECTOR_RECORDS METADATA_RECORDS

-- the key of the record of a chunk
abbrev pub unit_key : ℕ → ℕ → UnitRecord → ShadowKey
unit_key number chunk Used = key_of number CHUNK_RECORDS (pos chunk) (pos 1)
unit_key number chunk Rowids = key_of number CHUNK_RECORDS (pos chunk) (pos 2)
unit_key number chunk (Truths column) = key_of number METADATA_RECORDS (pos chunk) (pos column.before)
unit_key number chunk (Cells column) = key_of number (cells_kind column.kind) (pos chunk) (pos column.before)

-- a column of vectors or of metadata, which is the one of its role with so many before it
pub record HasCells (columns : List Column) (column : ColumnPlace) : Type 0 where
  pub celled : (is_vector column.kind || is_metadata column.kind) ≡ true
  pub stands : StandsIn (role_of column.kind) columns column

-- a table of the columns has such a record: one of truth values exactly for a column of these
abbrev pub IsUnitRecord : List Column → UnitRecord → Type 0
IsUnitRecord columns Used = ⊤
IsUnitRecord columns Rowids = ⊤
IsUnitRecord columns (Truths column) = (is_bits_column column.kind ≡ true) × HasCells columns column
IsUnitRecord columns (Cells column) = (is_bits_column column.kind ≡ false) × HasCells columns column

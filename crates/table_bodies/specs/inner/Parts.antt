-- What units are put together from.
use Rattle.std.specs.Prelude.{◌≡◌, ◌+◌, ◌<◌, ◌^◌, ℕ, ℤ, Bool, false, List, Option, Some, None, replicate, ⊤}
use Rattle.row_model.specs.Groups.{kind_in}
use Rattle.row_model.specs.declared.schema.Column.{Column}
use Rattle.row_model.specs.declared.schema.Kind.{Kind}
use Rattle.row_model.specs.declared.schema.Role.{Role}
use Rattle.row_model.specs.declared.schema.Role.TheVariants.{Vector, Metadata}
use Rattle.shadow_records.specs.Cells.{number_bytes}
use Rattle.shadow_records.specs.PlacedTables.{PlacedRow}
use Rattle.shadow_records.specs.Records.{ColumnAt, is_used, slot_bit}
use Rattle.table_bodies.specs.Units.{seen}
use Rattle.table_bodies.specs.declared.column_place.ColumnPlace.{ColumnPlace}
use Rattle.table_bodies.specs.declared.unit_record.UnitRecord.{UnitRecord}
use Rattle.table_bodies.specs.declared.unit_record.UnitRecord.TheVariants.{Used, Rowids, Truths, Cells}

-- a place and a kind that were found
abbrev pub column_here : ℕ × Kind → ColumnAt
column_here found = record { place = found.0; kind = found.1 }

-- the column of its kind has a number of a byte
pub record StandsAt (columns : List Column) (column : ColumnPlace) : Type 0 where
  pub kind : kind_in columns column.place ≡ Some column.kind
  pub low : column.place + 1 < 2 ^ 8

-- the bit of a slot in a record of bits
abbrev pub bit_of : UnitRecord → Option PlacedRow → Bool
bit_of Used placed = is_used placed
bit_of Rowids placed = false
bit_of (Truths column) placed = slot_bit (seen column) placed
bit_of (Cells column) placed = false

-- the bytes of a rowid, or zeros
abbrev pub rowid_bytes : Option ℤ → List ℕ
rowid_bytes None = replicate 8 0
rowid_bytes (Some rowid) = number_bytes rowid

-- columns of the role have cells in chunks
abbrev pub HasUnits : Role → Type 0
HasUnits Vector = ⊤
HasUnits Metadata = ⊤
HasUnits _ = ⊥

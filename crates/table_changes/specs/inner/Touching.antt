-- What of a chunk was touched, and that the rest of it is the same.
use Rattle.std.specs.Prelude.{◌≡◌, ℕ, ◌<◌, ◌/◌, Bool, true, false, nat_lt, List, pos, ⊤}
use Rattle.std.specs.List.{list_all}
use Rattle.vec_base.specs.Forms.{is_listed}
use Rattle.shadow_records.specs.PlacedTables.{PlacedRow, PlacedTable, row_at}
use Rattle.table_bodies.specs.declared.unit_record.UnitRecord.{UnitRecord}
use Rattle.table_bodies.specs.declared.unit_record.UnitRecord.TheVariants.{Used, Rowids, Truths, Cells}
use Rattle.table_bodies.specs.Units.{IsUnitRecord, unit, unit_count, unit_key}
use Rattle.row_model.specs.declared.schema.Column.{Column}
use Rattle.vec_base.specs.declared.shadow.ShadowKey.{ShadowKey}
use Rattle.table_changes.specs.declared.turn.Turn.{Turn}
use Rattle.table_changes.specs.declared.turn.Turn.TheVariants.{Over, Made, Gone}
use Rattle.table_changes.specs.declared.touched.Touched.{Touched}

abbrev pub are_below : ℕ → List ℕ → Bool
are_below count places = list_all (λ place. nat_lt place count) places

-- a place comes to a list of places
pub record AddsPlace (place : ℕ) (old new : List ℕ) : Type 0 where
  pub own : is_listed new place ≡ true
  pub kept : (k : ℕ) → is_listed old k ≡ true → is_listed new k ≡ true
  pub below : (count : ℕ) → place < count → are_below count old ≡ true → are_below count new ≡ true

-- each slot whose row may differ is listed, and so is the byte of its bit
pub record IsTouched (older newer : List PlacedRow) (size : ℕ) (touched : Touched) : Type 0 where
  pub slots_below : are_below size touched.slots ≡ true
  pub bytes_below : are_below (size / 8) touched.bytes ≡ true
  pub slots : (s : ℕ) → s < size → is_listed touched.slots s ≡ false → row_at older touched.chunk s ≡ row_at newer touched.chunk s
  pub bytes : (s : ℕ) → s < size → is_listed touched.bytes (s / 8) ≡ false → row_at older touched.chunk s ≡ row_at newer touched.chunk s

-- the same where a newer table follows an older one
abbrev pub IsTouchedIn : Turn → Touched → Type 0
IsTouchedIn (Over older newer) touched = IsTouched older.now.table.rows newer.now.table.rows newer.now.table.schema.chunk_size touched
IsTouchedIn (Made newer) touched = ⊤
IsTouchedIn (Gone older) touched = ⊤

-- ---- units

-- the key is that of such a record of its chunk
abbrev pub IsRecordOf : List Column → ShadowKey → UnitRecord → Type 0
IsRecordOf columns key of = IsUnitRecord columns of × ((chunk : ℕ) → key.a ≡ pos chunk → unit_key key.table chunk of ≡ key)

-- the places of the units of a record that may differ
abbrev pub units_in : UnitRecord → Touched → List ℕ
units_in Used touched = touched.bytes
units_in Rowids touched = touched.slots
units_in (Truths column) touched = touched.bytes
units_in (Cells column) touched = touched.slots

-- each unit that differs is listed
pub record HoldsUnits (older newer : PlacedTable) (chunk : ℕ) (of : UnitRecord) (units : List ℕ) : Type 0 where
  pub below : are_below (unit_count of newer.schema.chunk_size) units ≡ true
  pub same : (k : ℕ) → k < unit_count of newer.schema.chunk_size → is_listed units k ≡ false → unit of older chunk k ≡ unit of newer chunk k

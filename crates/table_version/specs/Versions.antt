-- The state of a table with places, and where it may differ from the one that it was shared from.
use Rattle.std.specs.Prelude.{◌≡◌, ℕ, ℤ, pos, false, List, [], find, Option}
use Rattle.chunk_slots.specs.Slots.{UsedSlot, vectors_of}
use Rattle.row_model.specs.declared.schema.Column.{Column}
use Rattle.row_model.specs.declared.schema.Schema.{Schema}
use Rattle.row_store.specs.StoredRows.{has_text, is_above}
use Rattle.row_store.specs.Touches.{Touches, is_touched_place, is_touched_row}
use Rattle.shadow_records.specs.PlacedTables.{PlacedRow, PlacedTable, IsPlaced, row_at, row_of}
use Rattle.table_version.specs.Kept.{id_in}

-- the table, and the rowids and places that were touched since it was shared
pub record VersionState : Type 0 where
  pub table : PlacedTable
  pub touches : Touches

abbrev pub empty_table : List ℕ → Schema → PlacedTable
empty_table name schema = record { name = name; schema = schema; top = pos 0; rows = [] }

-- ---- finding rows

abbrev pub rowid_in : PlacedRow → ℤ
rowid_in placed = placed.row.rowid

-- the first row of a rowid above one, or the first of all
abbrev pub next_row : Option ℤ → List PlacedRow → Option PlacedRow
next_row after rows = find (λ placed. is_above after placed.row.rowid) rows

-- the row whose text key is this text
abbrev pub row_with_id : List Column → List ℕ → List PlacedRow → Option PlacedRow
row_with_id columns id rows = find (λ placed. has_text id (id_in columns placed.row.values)) rows

-- what a slot holds of its row
abbrev pub slot_of_row : PlacedRow → UsedSlot
slot_of_row placed = record { rowid = placed.row.rowid; vectors = vectors_of placed.row.values }

-- ---- what was shared

-- an older table of the name and schema: rows differ from its rows where it was touched, and nowhere else
pub record Follows (older : PlacedTable) (newer : VersionState) : Type 0 where
  pub placed : IsPlaced older
  pub name : older.name ≡ newer.table.name
  pub schema : older.schema ≡ newer.table.schema
  pub by_rowid : (i : ℤ) → is_touched_row newer.touches i ≡ false → row_of older.rows i ≡ row_of newer.table.rows i
  pub by_place : (c s : ℕ) → is_touched_place newer.touches c s ≡ false → row_at older.rows c s ≡ row_at newer.table.rows c s

-- what the old state follows the new one follows too
abbrev pub KeepsOrigin : VersionState → VersionState → Type 0
KeepsOrigin old new = (base : PlacedTable) → Follows base old → Follows base new

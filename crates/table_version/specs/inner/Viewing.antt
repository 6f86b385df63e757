-- Where what is kept of a row stands that is in one of its columns.
use Rattle.std.specs.Prelude.{◌≡◌, ℤ, true, List, is_some}
use Rattle.std.specs.List.{list_all}
use Rattle.row_chunks.specs.Cells.{kinds_of}
use Rattle.row_chunks.specs.RowSlots.{slot_at}
use Rattle.row_model.specs.declared.schema.Column.{Column}
use Rattle.row_store.specs.Shown.{shown}
use Rattle.row_store.specs.declared.readers.RowRef.{RowRef}
use Rattle.table_version.specs.Kept.{is_partition_value, widths_of}
use Rattle.table_version.specs.Viewed.{ViewedRow}
use Rattle.table_version.specs.inner.StoredTables.{placed}

-- the row that is shown
abbrev pub viewed : List Column → ℤ → RowRef → ViewedRow
viewed columns rowid row = record { columns = columns; placed = placed columns (shown rowid row) }

-- its slot is used, and has vectors of the widths and cells of the kinds of the columns, and partition values
pub record IsSoundView (columns : List Column) (row : RowRef) : Type 0 where
  pub used : is_some (slot_at row.slots.now row.slot) ≡ true
  pub widths : row.slots.now.widths ≡ widths_of columns
  pub kinds : row.slots.now.kinds ≡ kinds_of columns
  pub partition : list_all is_partition_value row.partition.now ≡ true

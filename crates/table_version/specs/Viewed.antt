-- A row that is read column by column.
use Rattle.std.specs.Prelude.{ℕ, zero, suc, Bool, false, ◌&&◌, ◌||◌, List, Option, Some, None}
use Rattle.vec_base.specs.declared.value.Value.{Value}
use Rattle.vec_base.specs.declared.value.Value.TheVariants.{Int}
use Rattle.row_chunks.specs.Cells.{is_cell, is_cell_value}
use Rattle.row_model.specs.Groups.{kind_in}
use Rattle.row_model.specs.Schemas.{is_vector}
use Rattle.row_model.specs.declared.schema.Column.{Column}
use Rattle.row_model.specs.declared.schema.Kind.{Kind}
use Rattle.shadow_records.specs.PlacedTables.{PlacedRow, value_in}

-- a row of a table of these columns
pub record ViewedRow : Type 0 where
  pub columns : List Column
  pub placed : PlacedRow

abbrev pub is_kind_of : (Kind → Bool) → Option Kind → Bool
is_kind_of sort None = false
is_kind_of sort (Some kind) = sort kind

-- the kind of the column of a number, from 1; 0 is the rowid
abbrev pub kind_numbered : List Column → ℕ → Option Kind
kind_numbered columns zero = None
kind_numbered columns (suc place) = kind_in columns place

abbrev pub is_vector_column : List Column → ℕ → Bool
is_vector_column columns number = is_kind_of is_vector (kind_numbered columns number)

-- A column of the kind, if there is one, can be set to the value: it is one of vectors, metadata or auxiliary values, and can hold it.
abbrev pub can_set : Option Kind → Value → Bool
can_set None value = false
can_set (Some kind) value = (is_vector kind || is_cell kind) && is_cell_value kind value

-- the value in the column of a number; 0 is the rowid
abbrev pub column_value : ViewedRow → ℕ → Value
column_value view zero = Int view.placed.row.rowid
column_value view (suc place) = value_in place view.placed

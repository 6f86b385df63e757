-- Columns that take new values.
use Rattle.std.specs.Prelude.{◌≡◌, true, List}
use Rattle.row_model.specs.ColumnNames.{place_of}
use Rattle.row_model.specs.declared.schema.Column.{Column}
use Rattle.row_model.specs.declared.statement.Assign.{Assign}
use Rattle.table_version.specs.Viewed.{can_set, kind_numbered}
use Rattle.table_writes.specs.inner.NewValues.{declared_number}

-- the column is there, and takes the value
pub record IsSettable (columns : List Column) (set : Assign) : Type 0 where
  pub takes : can_set (kind_numbered columns (declared_number (place_of columns set.column))) set.value ≡ true

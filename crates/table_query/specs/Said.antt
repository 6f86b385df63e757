-- The rowid that a test on the rowid or the key is for.
use Rattle.std.specs.Prelude.{ℤ, List, Option, Some, None}
use Rattle.std.specs.Option.{option_map}
use Rattle.vec_base.specs.declared.value.Value.{Value}
use Rattle.vec_base.specs.declared.value.Value.TheVariants.{Int, Text}
use Rattle.row_model.specs.declared.schema.Column.{Column}
use Rattle.row_model.specs.declared.statement.Test.{Test}
use Rattle.row_model.specs.declared.statement.Test.TheVariants.{Compare}
use Rattle.shadow_records.specs.PlacedTables.{PlacedRow}
use Rattle.table_version.specs.Versions.{row_with_id, rowid_in}

-- a number is a rowid, and a text is the key of a row, if there is one
abbrev pub rowid_for : List Column → List PlacedRow → Value → Option ℤ
rowid_for columns rows (Int number) = Some number
rowid_for columns rows (Text text) = option_map rowid_in (row_with_id columns text rows)
rowid_for columns rows _ = None

abbrev pub rowid_said : List Column → List PlacedRow → Test → Option ℤ
rowid_said columns rows (Compare op value) = rowid_for columns rows value
rowid_said columns rows _ = None

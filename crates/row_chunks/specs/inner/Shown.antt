-- Columns of each sort as lists of values.
use Rattle.std.specs.Prelude.{map}
use Rattle.vec_base.specs.declared.value.Value.TheVariants.{Int, Text}
use Rattle.row_model.specs.declared.schema.Kind.TheVariants.{IntMeta, TextMeta, BoolMeta}
use Rattle.metadata_chunks.specs.Columns.{number_of}
use Rattle.row_chunks.specs.declared.cell_column.Cells.{Cells}
use Rattle.row_chunks.specs.declared.cell_column.Cells.TheVariants.{Ints, Bools, Texts, Others}
use Rattle.row_chunks.specs.inner.CellColumns.{CellList}

abbrev pub column_shown : Cells → CellList
column_shown (Ints numbers) = record { kind = IntMeta; cells = map (λ number. Int number) numbers }
column_shown (Bools bits) = record { kind = BoolMeta; cells = map number_of bits }
column_shown (Texts texts) = record { kind = TextMeta; cells = map (λ text. Text text) texts }
column_shown (Others column) = column

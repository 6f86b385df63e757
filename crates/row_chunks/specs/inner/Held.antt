-- Cells of auxiliary columns as values.
use Rattle.vec_base.specs.declared.value.Value.{Value}
use Rattle.vec_base.specs.declared.value.Value.TheVariants.{Null, Int, Text, Blob}
use Rattle.row_chunks.specs.declared.auxiliary.AuxiliaryCell.{AuxiliaryCell}
use Rattle.row_chunks.specs.declared.auxiliary.AuxiliaryCell.TheVariants.{Null as NullCell, Int as IntCell, Text as TextCell, Blob as BlobCell}

-- the value that a cell holds
abbrev pub value_held : AuxiliaryCell → Value
value_held NullCell = Null
value_held (IntCell number) = Int number
value_held (TextCell text) = Text text
value_held (BlobCell bytes) = Blob bytes

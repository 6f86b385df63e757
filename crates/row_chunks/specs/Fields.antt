-- Values as they are read.
use Rattle.vec_base.specs.declared.value.Value.{Value}
use Rattle.vec_base.specs.declared.value.Value.TheVariants.{Null, Int, Text, Blob}
use Rattle.row_chunks.specs.declared.field.Field.{Field}
use Rattle.row_chunks.specs.declared.field.Field.TheVariants.{Null as NullField, Int as IntField, Text as TextField, Blob as BlobField}

-- the value that is lent
abbrev pub value_shown : Field → Value
value_shown NullField = Null
value_shown (IntField number) = Int number
value_shown (TextField text) = Text text.now
value_shown (BlobField bytes) = Blob bytes.now

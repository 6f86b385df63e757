-- The parts of the canonical text of a schema.
use Rattle.std.specs.Prelude.{List, [], ◌∷◌, ◌++◌, Some, None, map}
use Rattle.row_model.specs.declared.schema.Column.{Column}
use Rattle.row_model.specs.declared.schema.Kind.{Kind}
use Rattle.row_model.specs.declared.schema.Kind.TheVariants.{IntKey, TextKey, Int8Vector, BitVector, IntPartition, TextPartition, IntMeta, TextMeta, BoolMeta, IntAux, TextAux, BlobAux}
use Rattle.row_model.specs.declared.schema.Schema.{Schema}
use Rattle.vec0_columns.specs.declared.text.Spelled.{Spelled}
use Rattle.vec0_columns.specs.declared.text.Spelled.TheVariants.{Int8, Bits, Plain}
use Rattle.vec0_columns.specs.declared.text.Arg.{Arg}
use Rattle.vec0_columns.specs.declared.text.Arg.TheVariants as args

-- the kind with its metric, as it is written
abbrev pub spelled_kind : Kind → Spelled
spelled_kind (Int8Vector width metric) = Int8 width (Some metric)
spelled_kind (BitVector width) = Bits width None
spelled_kind IntKey = Plain IntKey
spelled_kind TextKey = Plain TextKey
spelled_kind IntPartition = Plain IntPartition
spelled_kind TextPartition = Plain TextPartition
spelled_kind IntMeta = Plain IntMeta
spelled_kind TextMeta = Plain TextMeta
spelled_kind BoolMeta = Plain BoolMeta
spelled_kind IntAux = Plain IntAux
spelled_kind TextAux = Plain TextAux
spelled_kind BlobAux = Plain BlobAux

abbrev pub column_part : Column → Arg
column_part column = args.Column column.name (spelled_kind column.kind)

-- the columns in their order, and the chunk size
abbrev pub parts_of : Schema → List Arg
parts_of schema = map column_part schema.columns ++ args.ChunkSize schema.chunk_size ∷ []

-- A partition column, a column of vectors, and a metadata column.
use Rattle.std.specs.Prelude.{List, [], ◌∷◌, codes}
use Rattle.row_model.specs.declared.schema.Column.{Column}
use Rattle.row_model.specs.declared.schema.Kind.TheVariants.{Int8Vector, IntPartition, IntMeta}
use Rattle.row_model.specs.declared.schema.Metric.TheVariants.{L2}

-- p integer partition key, a int8[2], m integer
abbrev pub three_columns : List Column
three_columns = record { name = codes "p"; kind = IntPartition } ∷ record { name = codes "a"; kind = Int8Vector 2 L2 } ∷ record { name = codes "m"; kind = IntMeta } ∷ []

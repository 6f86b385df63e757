-- The columns of the tables that are kept.
use Rattle.std.specs.Prelude.{List, [], ◌∷◌, codes}
use Rattle.row_model.specs.declared.schema.Column.{Column}
use Rattle.row_model.specs.declared.schema.Kind.TheVariants.{Int8Vector, IntPartition, TextPartition, BoolMeta, TextMeta}
use Rattle.row_model.specs.declared.schema.Metric.TheVariants.{L2}

-- a int8[2]
abbrev pub one_column : List Column
one_column = record { name = codes "a"; kind = Int8Vector 2 L2 } ∷ []

-- a int8[2], p integer partition key
abbrev pub two_columns : List Column
two_columns = record { name = codes "a"; kind = Int8Vector 2 L2 } ∷ record { name = codes "p"; kind = IntPartition } ∷ []

-- a int8[2], p text partition key, b boolean, m text
abbrev pub sample_columns : List Column
sample_columns =
    record { name = codes "a"; kind = Int8Vector 2 L2 }
    ∷ record { name = codes "p"; kind = TextPartition }
    ∷ record { name = codes "b"; kind = BoolMeta }
    ∷ record { name = codes "m"; kind = TextMeta }
    ∷ []

-- The columns of the tables that are tested.
use Rattle.std.specs.Prelude.{List, [], ◌∷◌, codes}
use Rattle.row_model.specs.declared.schema.Column.{Column}
use Rattle.row_model.specs.declared.schema.Kind.TheVariants.{TextKey, Int8Vector, IntPartition, IntMeta, TextMeta, BoolMeta, TextAux}
use Rattle.row_model.specs.declared.schema.Metric.TheVariants.{L2}

-- a int8[2]
abbrev pub one_column : List Column
one_column = record { name = codes "a"; kind = Int8Vector 2 L2 } ∷ []

-- a int8[2], p integer partition key
abbrev pub two_columns : List Column
two_columns = record { name = codes "a"; kind = Int8Vector 2 L2 } ∷ record { name = codes "p"; kind = IntPartition } ∷ []

-- id text primary key, a int8[2], m text, n integer, b boolean, +x text
abbrev pub many_columns : List Column
many_columns =
    record { name = codes "id"; kind = TextKey }
    ∷ record { name = codes "a"; kind = Int8Vector 2 L2 }
    ∷ record { name = codes "m"; kind = TextMeta }
    ∷ record { name = codes "n"; kind = IntMeta }
    ∷ record { name = codes "b"; kind = BoolMeta }
    ∷ record { name = codes "x"; kind = TextAux }
    ∷ []

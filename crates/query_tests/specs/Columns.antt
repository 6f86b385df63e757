-- The columns of the tables that are searched.
use Rattle.std.specs.Prelude.{List, [], ◌∷◌, codes}
use Rattle.row_model.specs.declared.schema.Column.{Column}
use Rattle.row_model.specs.declared.schema.Kind.TheVariants.{IntKey, Int8Vector, BitVector, TextPartition, IntMeta, TextMeta, BoolMeta, TextAux}
use Rattle.row_model.specs.declared.schema.Metric.TheVariants.{L1, L2}

-- doc_id integer primary key, user text partition key, year integer, shown boolean, e int8[4] distance_metric=l1, +title text
abbrev pub document_columns : List Column
document_columns =
    record { name = codes "doc_id"; kind = IntKey }
    ∷ record { name = codes "user"; kind = TextPartition }
    ∷ record { name = codes "year"; kind = IntMeta }
    ∷ record { name = codes "shown"; kind = BoolMeta }
    ∷ record { name = codes "e"; kind = Int8Vector 4 L1 }
    ∷ record { name = codes "title"; kind = TextAux }
    ∷ []

-- b bit[8], m text
abbrev pub bit_columns : List Column
bit_columns = record { name = codes "b"; kind = BitVector 8 } ∷ record { name = codes "m"; kind = TextMeta } ∷ []

-- a int8[8192], b int8[8192] distance_metric=l1
abbrev pub wide_columns : List Column
wide_columns = record { name = codes "a"; kind = Int8Vector 8192 L2 } ∷ record { name = codes "b"; kind = Int8Vector 8192 L1 } ∷ []

-- a int8[2]
abbrev pub vector_columns : List Column
vector_columns = record { name = codes "a"; kind = Int8Vector 2 L2 } ∷ []

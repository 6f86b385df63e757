-- A text key, vectors of two elements, numbers and notes.
use Rattle.std.specs.Prelude.{List, [], ◌∷◌, codes}
use Rattle.row_model.specs.declared.schema.Column.{Column}
use Rattle.row_model.specs.declared.schema.Kind.TheVariants.{TextKey, Int8Vector, IntMeta, TextAux}
use Rattle.row_model.specs.declared.schema.Metric.TheVariants.{L2}

abbrev pub four_columns : List Column
four_columns =
    record { name = codes "id"; kind = TextKey } ∷ record { name = codes "a"; kind = Int8Vector 2 L2 } ∷ record { name = codes "m"; kind = IntMeta }
    ∷ record { name = codes "n"; kind = TextAux } ∷ []

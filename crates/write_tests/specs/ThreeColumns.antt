-- Vectors of two elements, numbers and notes.
use Rattle.std.specs.Prelude.{ℕ, List, [], ◌∷◌, codes}
use Rattle.row_model.specs.declared.schema.Column.{Column}
use Rattle.row_model.specs.declared.schema.Kind.TheVariants.{Int8Vector, IntMeta, BlobAux}
use Rattle.row_model.specs.declared.schema.Metric.TheVariants.{L2}

abbrev pub three_columns : List Column
three_columns = record { name = codes "a"; kind = Int8Vector 2 L2 } ∷ record { name = codes "m"; kind = IntMeta } ∷ record { name = codes "n"; kind = BlobAux } ∷ []

abbrev pub row_names : List (List ℕ)
row_names = codes "rowid" ∷ codes "a" ∷ codes "m" ∷ codes "n" ∷ []

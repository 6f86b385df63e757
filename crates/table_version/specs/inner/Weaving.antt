-- How a row's values are put together from what is kept of it: its rowid, its text id, its partition values, its vectors and its cells.
use Rattle.std.specs.Prelude.{ℕ, ℤ, Bool, true, false, List, [], ◌∷◌, Option, Some, None}
use Rattle.vec_base.specs.declared.value.Value.{Value}
use Rattle.vec_base.specs.declared.value.Value.TheVariants.{Null, Int, Text, Int8, Bits}
use Rattle.row_model.specs.Schemas.{is_partition, is_vector}
use Rattle.row_model.specs.declared.schema.Column.{Column}
use Rattle.row_model.specs.declared.schema.Kind.{Kind}
use Rattle.row_model.specs.declared.schema.Kind.TheVariants.{IntKey, TextKey, Int8Vector, BitVector, IntPartition, TextPartition}
use Rattle.row_chunks.specs.Cells.{is_cell}

abbrev pub id_text : Option (List ℕ) → List ℕ
id_text None = []
id_text (Some text) = text

abbrev pub next_value : List Value → Value
next_value [] = Null
next_value (value ∷ values) = value

abbrev pub next_vector : List (List ℕ) → List ℕ
next_vector [] = []
next_vector (vector ∷ vectors) = vector

-- the list without its first element, where that was taken
abbrev pub past : {A : Type 0} → Bool → List A → List A
past false xs = xs
past true [] = []
past true (x ∷ xs) = xs

-- what is kept of the values of a row beside its rowid and its text id
pub record KeptValues : Type 0 where
  pub partition : List Value
  pub vectors : List (List ℕ)
  pub cells : List Value

-- what is left for the columns behind one of the kind
abbrev pub behind : Kind → KeptValues → KeptValues
behind kind kept = record {
  partition = past (is_partition kind) kept.partition;
  vectors = past (is_vector kind) kept.vectors;
  cells = past (is_cell kind) kept.cells;
}

-- the value in a column: the first of the partition values, of the vectors or of the cells is its own
abbrev pub woven_value : Kind → ℤ → Option (List ℕ) → KeptValues → Value
woven_value IntKey rowid id kept = Int rowid
woven_value TextKey rowid id kept = Text (id_text id)
woven_value (Int8Vector width metric) rowid id kept = Int8 (next_vector kept.vectors)
woven_value (BitVector width) rowid id kept = Bits (next_vector kept.vectors)
woven_value IntPartition rowid id kept = next_value kept.partition
woven_value TextPartition rowid id kept = next_value kept.partition
woven_value _ rowid id kept = next_value kept.cells

-- the values of all columns; partition values, vectors and cells are taken in the order of their columns
abbrev pub woven : List Column → ℤ → Option (List ℕ) → KeptValues → List Value
woven [] rowid id kept = []
woven (column ∷ columns) rowid id kept = woven_value column.kind rowid id kept ∷ woven columns rowid id (behind column.kind kept)

-- What is kept of the values of a row: the text id, partition values and vectors.
use Rattle.std.specs.Prelude.{ℕ, ◌/◌, Bool, false, ◌||◌, if◌then◌else◌, List, [], ◌∷◌, bytes_eq, Option, Some, None}
use Rattle.std.specs.List.{filter_map}
use Rattle.vec_base.specs.declared.value.Value.{Value}
use Rattle.vec_base.specs.declared.value.Value.TheVariants.{Text}
use Rattle.row_model.specs.ColumnNames.{is_text_key}
use Rattle.row_model.specs.Values.{is_int, is_text}
use Rattle.row_model.specs.declared.schema.Column.{Column}
use Rattle.row_model.specs.declared.schema.Kind.{Kind}
use Rattle.row_model.specs.declared.schema.Kind.TheVariants.{Int8Vector, BitVector}

-- the text that a value is, if it is one
abbrev pub text_in : Value → Option (List ℕ)
text_in (Text text) = Some text
text_in _ = None

-- the text in the column of a text key, if there is one
abbrev pub id_in : List Column → List Value → Option (List ℕ)
id_in (column ∷ columns) (value ∷ values) = if is_text_key column.kind then text_in value else id_in columns values
id_in [] values = None
id_in (column ∷ columns) [] = None

-- both are there, and are one text
abbrev pub is_one_id : Option (List ℕ) → Option (List ℕ) → Bool
is_one_id (Some a) (Some b) = bytes_eq a b
is_one_id (Some a) None = false
is_one_id None id = false

-- a number or a text
abbrev pub is_partition_value : Value → Bool
is_partition_value value = is_int value || is_text value

-- the bytes of a vector of the column, if it is one of vectors
abbrev pub vector_width : Kind → Option ℕ
vector_width (Int8Vector width metric) = Some width
vector_width (BitVector width) = Some (width / 8)
vector_width _ = None

-- the bytes of a vector of each vector column
abbrev pub widths_of : List Column → List ℕ
widths_of columns = filter_map (λ column. vector_width column.kind) columns

-- What the body of a record says. Numbers stand with their lowest byte first.
use Rattle.std.specs.Prelude.{ℕ, ◌+◌, ◌*◌, ◌/◌, ◌%◌, ◌^◌, ℤ, pos, Bool, true, false, cond, ◌&&◌, ◌==◌, nat_le, nat_lt, List, [], ◌∷◌, ◌++◌, length, take, drop, slice_index, Option, Some, None}
use Rattle.std.specs.List.{slice_get}
use Rattle.std.specs.Option.{option_and_then, option_map}
use Rattle.std.specs.Int.{from_le_bytes, to_le_bytes, cast_signed, w16, w32, w64}
use Rattle.std.specs.Str.{is_utf8}
use Rattle.vec_base.specs.declared.value.Value.{Value}
use Rattle.vec_base.specs.declared.value.Value.TheVariants.{Null, Int, Text, Blob}
use Rattle.row_model.specs.declared.schema.Column.{Column}
use Rattle.row_model.specs.declared.schema.Kind.{Kind}
use Rattle.row_model.specs.declared.schema.Kind.TheVariants.{IntPartition, TextPartition}
use Rattle.row_model.specs.Schemas.{is_partition}
use Rattle.shadow_records.specs.declared.kinds.TheConstants.{TEXT_VIEW_BYTES}

-- ---- places of rows

-- the chunk in the first four bytes, and the slot in the two behind them
abbrev pub place_in : List ℕ → Option (ℕ × ℕ)
place_in body = cond (nat_le 6 (length body)) (Some (from_le_bytes w32 (take 4 body), from_le_bytes w16 (take 2 (drop 4 body)))) None

abbrev pub place_bytes : ℕ → ℕ → List ℕ
place_bytes chunk slot = to_le_bytes w32 chunk ++ to_le_bytes w16 slot

-- the text id stands behind the place
abbrev pub id_in : List ℕ → List ℕ
id_in body = drop 6 body

-- ---- values

abbrev pub number_in : List ℕ → ℤ
number_in bytes = cast_signed w64 (from_le_bytes w64 bytes)

-- eight bytes are a number
abbrev pub int_in : List ℕ → Option Value
int_in bytes = cond (length bytes == 8) (Some (Int (number_in bytes))) None

-- bytes in UTF-8 are a text
abbrev pub text_in : List ℕ → Option Value
text_in bytes = cond (is_utf8 bytes) (Some (Text bytes)) None

abbrev pub blob_in : List ℕ → Option Value
blob_in bytes = Some (Blob bytes)

-- the length in the first four bytes
abbrev pub length_in : List ℕ → ℕ
length_in bytes = from_le_bytes w32 (take 4 bytes)

-- ---- partition values, one behind the other

-- how many bytes the value in front has, by its column; other columns have none there
abbrev pub partition_width : Kind → List ℕ → ℕ
partition_width IntPartition bytes = 9
partition_width TextPartition bytes = 5 + length_in (drop 1 bytes)
partition_width _ bytes = 0

-- 1 and a number; or 2, the length of the text, and the text
abbrev pub partition_value : Kind → List ℕ → Option Value
partition_value IntPartition bytes = cond (slice_index bytes 0 == 1) (int_in (drop 1 bytes)) None
partition_value TextPartition bytes = cond (slice_index bytes 0 == 2 && length bytes == partition_width TextPartition bytes) (text_in (drop 5 bytes)) None
partition_value _ bytes = None

-- a first item and those behind it, where all are there
abbrev pub joined : {X : Type 0} → Option X → Option (List X) → Option (List X)
joined None xs = None
joined (Some x) None = None
joined (Some x) (Some xs) = Some (x ∷ xs)

-- the values of the partition columns, where the body has one for each column and nothing else
abbrev pub partition_in : List Column → List ℕ → Option (List Value)
partition_in [] body = cond (length body == 0) (Some []) None
partition_in (column ∷ columns) body =
    cond (is_partition column.kind)
    (joined (partition_value column.kind (take (partition_width column.kind body) body)) (partition_in columns (drop (partition_width column.kind body) body)))
    (partition_in columns body)

-- ---- cells of a slot

-- the cell of a slot in a body of cells of one width
abbrev pub cell_in : ℕ → ℕ → List ℕ → Option (List ℕ)
cell_in width slot body = cond (nat_le (slot * width + width) (length body)) (Some (take width (drop (slot * width) body))) None

-- the bit of a slot, eight in each byte, the lowest bit first
abbrev pub bit_in : ℕ → List ℕ → Option Bool
bit_in slot body = option_map (λ byte. byte / (2 ^ (slot % 8)) % 2 == 1) (slice_get body (slot / 8))

abbrev pub bool_of : Bool → Value
bool_of true = Int (pos 1)
bool_of false = Int (pos 0)

abbrev pub bool_in : ℕ → List ℕ → Option Value
bool_in slot body = option_map bool_of (bit_in slot body)

-- the text of a view; a longer one has a record of its own
abbrev pub viewed_text : Option (List ℕ) → List ℕ → Option Value
viewed_text long view =
    cond (nat_lt TEXT_VIEW_BYTES (length_in view)) (option_and_then text_in long) (text_in (take (length_in view) (drop 4 view)))

-- an auxiliary value; NULL has no record
abbrev pub side_value : (List ℕ → Option Value) → Option (List ℕ) → Option Value
side_value says None = Some Null
side_value says (Some body) = says body

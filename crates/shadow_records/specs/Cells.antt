-- The bytes of values, and cells of one width behind each other. Numbers stand with their lowest byte first.
use Rattle.std.specs.Prelude.{ℕ, zero, suc, ◌+◌, ◌*◌, ◌/◌, ◌^◌, ℤ, pos, Bool, false, cond, List, [], ◌∷◌, ◌++◌, length, take, replicate, Option, Some, None, nat_lt}
use Rattle.std.specs.Int.{to_le_bytes, cast_unsigned, w32, w64}
use Rattle.std.specs.Ordering.{int_eq}
use Rattle.vec_base.specs.declared.value.Value.{Value}
use Rattle.vec_base.specs.declared.value.Value.TheVariants.{Int, Text, Blob, Int8, Bits}
use Rattle.row_model.specs.declared.schema.Kind.{Kind}
use Rattle.row_model.specs.declared.schema.Kind.TheVariants.{Int8Vector, BitVector, IntMeta, TextMeta}
use Rattle.shadow_records.specs.declared.kinds.TheConstants.{TEXT_VIEW_BYTES}

-- ---- cells behind each other

-- the cells of the first places, the one of place 0 first
abbrev pub laid : (ℕ → List ℕ) → ℕ → List ℕ
laid cell zero = []
laid cell (suc count) = laid cell count ++ cell count

-- the number whose bit i, from the lowest, is set where the test holds of i
abbrev pub of_bits : (ℕ → Bool) → ℕ → ℕ
of_bits test zero = 0
of_bits test (suc count) = of_bits test count + cond (test count) (2 ^ count) 0

-- one bit for each place, eight in each byte, the lowest bit first
abbrev pub bitmap : (ℕ → Bool) → ℕ → List ℕ
bitmap test size = laid (λ byte. of_bits (λ bit. test (8 * byte + bit)) 8 ∷ []) (size / 8)

-- ---- values

-- the eight bytes of a number
abbrev pub number_bytes : ℤ → List ℕ
number_bytes n = to_le_bytes w64 (cast_unsigned w64 n)

-- the length in four bytes, and the first bytes of the text, filled up with zeros
abbrev pub text_view : List ℕ → List ℕ
text_view text = to_le_bytes w32 (length text) ++ take TEXT_VIEW_BYTES (text ++ replicate TEXT_VIEW_BYTES 0)

-- the cell of a value
abbrev pub value_cell : Value → List ℕ
value_cell (Int n) = number_bytes n
value_cell (Text text) = text_view text
value_cell (Int8 vector) = vector
value_cell (Bits vector) = vector
value_cell _ = []

-- how many bytes a cell of a column has, where it has whole bytes
abbrev pub cell_width : Kind → ℕ
cell_width (Int8Vector width metric) = width
cell_width (BitVector width) = width / 8
cell_width IntMeta = 8
cell_width TextMeta = 4 + TEXT_VIEW_BYTES
cell_width _ = 0

-- the truth value that is kept in one bit
abbrev pub is_one : Value → Bool
is_one (Int n) = int_eq n (pos 1)
is_one _ = false

-- a partition value: 1 and a number, or 2, the length in four bytes and a text
abbrev pub partition_value_bytes : Value → List ℕ
partition_value_bytes (Int n) = 1 ∷ number_bytes n
partition_value_bytes (Text text) = 2 ∷ (to_le_bytes w32 (length text) ++ text)
partition_value_bytes _ = []

-- a text that its view does not hold whole
abbrev pub long_text : Value → Option (List ℕ)
long_text (Text text) = cond (nat_lt TEXT_VIEW_BYTES (length text)) (Some text) None
long_text _ = None

-- an auxiliary value, where it is not NULL
abbrev pub side_body : Value → Option (List ℕ)
side_body (Int n) = Some (number_bytes n)
side_body (Text text) = Some text
side_body (Blob bytes) = Some bytes
side_body _ = None

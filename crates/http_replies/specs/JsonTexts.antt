-- Rows and their values in JSON, without white space.
use Rattle.std.specs.Prelude.{ℕ, List, ◌++◌, codes}
use Rattle.std.specs.Fmt.{signed_decimal}
use Rattle.hex.specs.Hex.{encode_upper}
use Rattle.json.specs.Print.{quoted}
use Rattle.vec_base.specs.declared.value.Value.{Value}
use Rattle.vec_base.specs.declared.value.Value.TheVariants.{Null, Int, Text, Blob, Int8, Bits}
use Rattle.vec_text.specs.SeparatedTexts.{separated}
use Rattle.vec_text.specs.ValueTexts.{int8_text}

-- A value. The string of a text has the short escapes and `\u00` with two digits for other control characters. The bytes of
-- a blob and of a bit vector are in digits in capitals.
abbrev pub value_json : Value → List ℕ
value_json Null = codes "null"
value_json (Int n) = signed_decimal n
value_json (Text text) = quoted text
value_json (Blob bytes) = codes "{\"hex\":\"" ++ encode_upper bytes ++ codes "\"}"
value_json (Int8 vector) = int8_text vector
value_json (Bits bytes) = codes "{\"bits\":\"" ++ encode_upper bytes ++ codes "\"}"

-- an array of the elements
abbrev pub array_json : {A : Type 0} → (A → List ℕ) → List A → List ℕ
array_json text xs = codes "[" ++ separated (codes ",") text xs ++ codes "]"

abbrev pub row_json : List Value → List ℕ
row_json values = array_json value_json values

abbrev pub rows_json : List (List Value) → List ℕ
rows_json rows = array_json row_json rows

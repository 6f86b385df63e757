-- The one text that is written for a value, in statements and in lines of replies.
use Rattle.std.specs.Prelude.{ℕ, ◌==◌, if◌then◌else◌, List, [], ◌∷◌, ◌++◌, codes}
use Rattle.std.specs.Fmt.{signed_decimal}
use Rattle.std.specs.Int.{w8, cast_signed}
use Rattle.hex.specs.Hex.{encode_upper}
use Rattle.vec_base.specs.declared.value.Value.{Value}
use Rattle.vec_base.specs.declared.value.Value.TheVariants.{Null, Int, Text, Blob, Int8, Bits}
use Rattle.vec_text.specs.SeparatedTexts.{separated}

-- the text with each quote twice
abbrev pub doubled : List ℕ → List ℕ
doubled [] = []
doubled (b ∷ bs) = if b == 39 then 39 ∷ 39 ∷ doubled bs else b ∷ doubled bs

-- the text literal of a text
abbrev pub quoted : List ℕ → List ℕ
quoted text = codes "'" ++ doubled text ++ codes "'"

-- the blob literal of bytes
abbrev pub blob_text : List ℕ → List ℕ
blob_text bytes = codes "X'" ++ encode_upper bytes ++ codes "'"

-- the element of an int8 vector that a byte stands for, in decimal
abbrev pub element_text : ℕ → List ℕ
element_text b = signed_decimal (cast_signed w8 b)

-- the elements, separated by commas
abbrev pub elements_text : List ℕ → List ℕ
elements_text vector = separated (codes ",") element_text vector

-- the literal of an int8 vector without white space
abbrev pub int8_text : List ℕ → List ℕ
int8_text vector = codes "[" ++ elements_text vector ++ codes "]"

-- the call that makes an int8 vector
abbrev pub int8_call : List ℕ → List ℕ
int8_call vector = codes "vec_int8('" ++ int8_text vector ++ codes "')"

-- the call that makes a bit vector
abbrev pub bits_call : List ℕ → List ℕ
bits_call bytes = codes "vec_bit(X'" ++ encode_upper bytes ++ codes "')"

abbrev pub value_text : Value → List ℕ
value_text Null = codes "NULL"
value_text (Int n) = signed_decimal n
value_text (Text text) = quoted text
value_text (Blob bytes) = blob_text bytes
value_text (Int8 vector) = int8_call vector
value_text (Bits bytes) = bits_call bytes

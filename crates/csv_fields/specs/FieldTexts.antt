-- The field that is written for a value.
use Rattle.std.specs.Prelude.{ℕ, Bool, if◌then◌else◌, List, [], ◌++◌, codes}
use Rattle.std.specs.Fmt.{signed_decimal}
use Rattle.hex.specs.Hex.{encode_lower, encode_upper}
use Rattle.vec_base.specs.declared.value.Value.{Value}
use Rattle.vec_base.specs.declared.value.Value.TheVariants.{Null, Int, Text, Blob, Int8, Bits}
use Rattle.vec_text.specs.ValueTexts.{int8_text}
use Rattle.row_model.specs.declared.schema.Kind.{Kind}
use Rattle.row_model.specs.Schemas.{is_auxiliary}
use Rattle.row_model.specs.Values.{is_null, is_of_kind}

-- the field of a text, with a mark in front in an auxiliary column
abbrev pub text_field : Bool → List ℕ → List ℕ
text_field marked text = if marked then codes "'" ++ text else text

-- the field of a value in a column of the kind
abbrev pub field_of : Kind → Value → List ℕ
field_of kind Null = []
field_of kind (Int n) = signed_decimal n
field_of kind (Text text) = text_field (is_auxiliary kind) text
field_of kind (Blob bytes) = codes "x" ++ encode_lower bytes
field_of kind (Int8 vector) = int8_text vector
field_of kind (Bits bytes) = encode_upper bytes

-- a column of the kind holds such a value: one of its type, and in an auxiliary column also NULL
abbrev pub holds_value : Kind → Value → Bool
holds_value kind value = if is_null value then is_auxiliary kind else is_of_kind kind value

-- What a field of a record stands for in a column of a kind.
use Rattle.std.specs.Prelude.{◌≡◌, ◌⊎◌, ℕ, ℤ, pos, neg_ℤ, FitsSigned, List, [], ◌∷◌, Result, codes}
use Rattle.std.specs.Int.{w64}
use Rattle.std.specs.Str.Parse.{IsNumeral, digits_value}
use Rattle.vec_base.specs.Answers.{IsExactAnswer}
use Rattle.vec_base.specs.declared.value.Value.{Value}
use Rattle.vec_base.specs.declared.value.Value.TheVariants.{Null, Int, Text, Blob, Int8, Bits}
use Rattle.vec_literal.specs.Bits.{SpellsBits}
use Rattle.vec_literal.specs.Int8.{SpellsInt8}
use Rattle.row_model.specs.declared.schema.Kind.{Kind}
use Rattle.row_model.specs.declared.schema.Kind.TheVariants.{IntKey, TextKey, Int8Vector, BitVector, IntPartition, TextPartition, IntMeta, TextMeta, BoolMeta, IntAux, TextAux, BlobAux}
use Rattle.csv_fields.specs.declared.fault.FieldFault.{FieldFault}
use Rattle.csv_fields.specs.declared.fault.FieldFault.TheVariants.{Form, Memory}

-- ---- numbers

-- decimal digits, at least one, behind a `-` or without
abbrev pub SpellsInteger : List ℕ → ℤ → Type 0
SpellsInteger field n =
    (IsNumeral 10 field × (n ≡ pos (digits_value 10 field)))
    ⊎ ((digits : List ℕ) × (field ≡ 45 ∷ digits) × IsNumeral 10 digits × (n ≡ neg_ℤ (pos (digits_value 10 digits))))

-- a number in decimal that has 64 bits
abbrev pub IsIntField : List ℕ → Value → Type 0
IsIntField field value = (n : ℤ) × SpellsInteger field n × FitsSigned w64 n × (value ≡ Int n)

-- a truth value is 0 or 1
abbrev pub IsBoolField : List ℕ → Value → Type 0
IsBoolField field value = ((field ≡ codes "0") × (value ≡ Int (pos 0))) ⊎ ((field ≡ codes "1") × (value ≡ Int (pos 1)))

-- ---- texts and vectors

-- the field is the text itself
abbrev pub IsTextField : List ℕ → Value → Type 0
IsTextField field value = value ≡ Text field

-- a literal of numbers in brackets
abbrev pub IsInt8Field : List ℕ → Value → Type 0
IsInt8Field field value = (vector : List ℕ) × SpellsInt8 field vector × (value ≡ Int8 vector)

-- two hexadecimal digits for each byte
abbrev pub IsBitsField : List ℕ → Value → Type 0
IsBitsField field value = (bytes : List ℕ) × SpellsBits field bytes × (value ≡ Bits bytes)

-- ---- auxiliary columns, where NULL is the empty field, so that a text and a blob have a mark in front

abbrev pub IsNullField : List ℕ → Value → Type 0
IsNullField field value = (field ≡ []) × (value ≡ Null)

-- `'` and the text
abbrev pub IsMarkedText : List ℕ → Value → Type 0
IsMarkedText field value = (text : List ℕ) × (field ≡ 39 ∷ text) × (value ≡ Text text)

-- `x` and two hexadecimal digits for each byte
abbrev pub IsMarkedBlob : List ℕ → Value → Type 0
IsMarkedBlob field value = (digits : List ℕ) × (bytes : List ℕ) × (field ≡ 120 ∷ digits) × SpellsBits digits bytes × (value ≡ Blob bytes)

-- ---- columns

-- the field stands for the value in a column of the kind
abbrev pub StandsFor : Kind → List ℕ → Value → Type 0
StandsFor IntKey field value = IsIntField field value
StandsFor TextKey field value = IsTextField field value
StandsFor (Int8Vector width metric) field value = IsInt8Field field value
StandsFor (BitVector width) field value = IsBitsField field value
StandsFor IntPartition field value = IsIntField field value
StandsFor TextPartition field value = IsTextField field value
StandsFor IntMeta field value = IsIntField field value
StandsFor TextMeta field value = IsTextField field value
StandsFor BoolMeta field value = IsBoolField field value
StandsFor IntAux field value = IsNullField field value ⊎ IsIntField field value
StandsFor TextAux field value = IsNullField field value ⊎ IsMarkedText field value
StandsFor BlobAux field value = IsNullField field value ⊎ IsMarkedBlob field value

-- ---- answers

-- the fault of a field that stands for no value
abbrev pub IsFormFault : (Value → Type 0) → FieldFault → Type 0
IsFormFault Stands fault = (fault ≡ Form) × ((value : Value) → Stands value → ⊥)

-- exactly the value that the field stands for, or the fault where it stands for none, or want of memory
abbrev pub ReadsField : (Value → Type 0) → Result Value FieldFault → Type 0
ReadsField Stands result = IsExactAnswer Memory Stands (IsFormFault Stands) result

-- The field of a value stands for the value.
use Rattle.std.proofs.Common.{◌≡◌, ℕ, Bool, true, false, refl, ◌∙◌, ap, inl, inr, arith}
use Rattle.std.specs.Prelude.{◌⊎◌, pos, negsuc, ◌==◌, ◌||◌, if◌then◌else◌}
use Rattle.std.proofs.lemmas.Bool.{eqb-true, false≢true, or_cases}
use Rattle.std.specs.Fmt.{decimal}
use Rattle.std.proofs.lemmas.Fmt.{decimal_digit}
use Rattle.hex.specs.Hex.{encode_lower, encode_upper}
use Rattle.hex.proofs.HexLemmas.{decode_of-encode_lower, decode_of-encode_upper}
use Rattle.vec_base.specs.Representable.{IsRepresentable}
use Rattle.vec_base.specs.declared.value.Value.{Value}
use Rattle.vec_base.specs.declared.value.Value.TheVariants.{Null, Int, Text, Blob, Int8, Bits}
use Rattle.vec_literal.proofs.BitsLaws.{decoded_spelled}
use Rattle.vec_literal.proofs.Int8Written.{bytes_spell}
use Rattle.vec_literal.proofs.ValuesBefore.{all_bytes}
use Rattle.row_model.specs.declared.schema.Kind.{Kind}
use Rattle.row_model.specs.declared.schema.Kind.TheVariants.{IntKey, TextKey, Int8Vector, BitVector, IntPartition, TextPartition, IntMeta, TextMeta, BoolMeta, IntAux, TextAux, BlobAux}
use Rattle.row_model.specs.Schemas.{is_auxiliary}
use Rattle.row_model.specs.Values.{is_null, is_bits, is_blob, is_bool, is_int, is_int8, is_text}
use Rattle.csv_fields.specs.FieldTexts.{field_of, holds_value}
use Rattle.csv_fields.specs.Fields.{IsBitsField, IsBoolField, IsInt8Field, IsIntField, IsMarkedBlob, IsMarkedText, IsNullField, IsTextField, StandsFor}
use Rattle.csv_fields.proofs.NumberLaws.{decimal_spelled}

int_back : (kind : Kind) (value : Value) → is_int value ≡ true → IsRepresentable value → IsIntField (field_of kind value) value
int_back kind Null is fits = absurd (false≢true is)
int_back kind (Int n) is fits = (n, decimal_spelled n fits, fits, refl)
int_back kind (Text text) is fits = absurd (false≢true is)
int_back kind (Blob bytes) is fits = absurd (false≢true is)
int_back kind (Int8 vector) is fits = absurd (false≢true is)
int_back kind (Bits bytes) is fits = absurd (false≢true is)

int8_back : (kind : Kind) (value : Value) → is_int8 value ≡ true → IsRepresentable value → IsInt8Field (field_of kind value) value
int8_back kind Null is fits = absurd (false≢true is)
int8_back kind (Int n) is fits = absurd (false≢true is)
int8_back kind (Text text) is fits = absurd (false≢true is)
int8_back kind (Blob bytes) is fits = absurd (false≢true is)
int8_back kind (Int8 vector) is fits = (vector, bytes_spell vector (all_bytes vector fits), refl)
int8_back kind (Bits bytes) is fits = absurd (false≢true is)

bits_back : (kind : Kind) (value : Value) → is_bits value ≡ true → IsRepresentable value → IsBitsField (field_of kind value) value
bits_back kind Null is fits = absurd (false≢true is)
bits_back kind (Int n) is fits = absurd (false≢true is)
bits_back kind (Text text) is fits = absurd (false≢true is)
bits_back kind (Blob bytes) is fits = absurd (false≢true is)
bits_back kind (Int8 vector) is fits = absurd (false≢true is)
bits_back kind (Bits bytes) is fits = (bytes, decoded_spelled (encode_upper bytes) bytes (decode_of-encode_upper bytes fits), refl)

blob_back : (kind : Kind) (value : Value) → is_blob value ≡ true → IsRepresentable value → IsMarkedBlob (field_of kind value) value
blob_back kind Null is fits = absurd (false≢true is)
blob_back kind (Int n) is fits = absurd (false≢true is)
blob_back kind (Text text) is fits = absurd (false≢true is)
blob_back kind (Blob bytes) is fits = (encode_lower bytes, bytes, refl, decoded_spelled (encode_lower bytes) bytes (decode_of-encode_lower bytes fits), refl)
blob_back kind (Int8 vector) is fits = absurd (false≢true is)
blob_back kind (Bits bytes) is fits = absurd (false≢true is)

-- a text in a column that is not auxiliary, and in one that is
text_back : (kind : Kind) (value : Value) → is_auxiliary kind ≡ false → is_text value ≡ true → IsTextField (field_of kind value) value
text_back kind Null plain is = absurd (false≢true is)
text_back kind (Int n) plain is = absurd (false≢true is)
text_back kind (Text text) plain is = rw plain refl
text_back kind (Blob bytes) plain is = absurd (false≢true is)
text_back kind (Int8 vector) plain is = absurd (false≢true is)
text_back kind (Bits bytes) plain is = absurd (false≢true is)

marked_back : (value : Value) → is_text value ≡ true → IsMarkedText (field_of TextAux value) value
marked_back Null is = absurd (false≢true is)
marked_back (Int n) is = absurd (false≢true is)
marked_back (Text text) is = (text, refl, refl)
marked_back (Blob bytes) is = absurd (false≢true is)
marked_back (Int8 vector) is = absurd (false≢true is)
marked_back (Bits bytes) is = absurd (false≢true is)

number_back : (n : ℕ) → (n == 0 || n == 1) ≡ true → IsBoolField (decimal n) (Int (pos n))
number_back n is = elim (or_cases (n == 0) (n == 1) is) [
  | inl zero_is ↦ inl (ap decimal (eqb-true n 0 zero_is) ∙ decimal_digit 0 (omega arith), ap (λ k. Int (pos k)) (eqb-true n 0 zero_is))
  | inr one_is ↦ inr (ap decimal (eqb-true n 1 one_is) ∙ decimal_digit 1 (omega arith), ap (λ k. Int (pos k)) (eqb-true n 1 one_is))
]

bool_back : (value : Value) → is_bool value ≡ true → IsBoolField (field_of BoolMeta value) value
bool_back Null is = absurd (false≢true is)
bool_back (Int (pos n)) is = number_back n is
bool_back (Int (negsuc n)) is = absurd (false≢true is)
bool_back (Text text) is = absurd (false≢true is)
bool_back (Blob bytes) is = absurd (false≢true is)
bool_back (Int8 vector) is = absurd (false≢true is)
bool_back (Bits bytes) is = absurd (false≢true is)

null_back : (kind : Kind) (value : Value) → is_null value ≡ true → IsNullField (field_of kind value) value
null_back kind Null is = (refl, refl)
null_back kind (Int n) is = absurd (false≢true is)
null_back kind (Text text) is = absurd (false≢true is)
null_back kind (Blob bytes) is = absurd (false≢true is)
null_back kind (Int8 vector) is = absurd (false≢true is)
null_back kind (Bits bytes) is = absurd (false≢true is)

-- a column that takes no NULL holds a value of its type, and another one that or NULL
of_type : (null typed : Bool) → (if null then false else typed) ≡ true → typed ≡ true
of_type true typed h = absurd (false≢true h)
of_type false typed h = h

null_or_typed : (null typed : Bool) → (if null then true else typed) ≡ true → (null ≡ true) ⊎ (typed ≡ true)
null_or_typed true typed h = inl refl
null_or_typed false typed h = inr h

pub field_back : (kind : Kind) (value : Value) → holds_value kind value ≡ true → IsRepresentable value → StandsFor kind (field_of kind value) value
field_back IntKey value held fits = int_back IntKey value (of_type (is_null value) (is_int value) held) fits
field_back TextKey value held fits = text_back TextKey value refl (of_type (is_null value) (is_text value) held)
field_back (Int8Vector width metric) value held fits = int8_back (Int8Vector width metric) value (of_type (is_null value) (is_int8 value) held) fits
field_back (BitVector width) value held fits = bits_back (BitVector width) value (of_type (is_null value) (is_bits value) held) fits
field_back IntPartition value held fits = int_back IntPartition value (of_type (is_null value) (is_int value) held) fits
field_back TextPartition value held fits = text_back TextPartition value refl (of_type (is_null value) (is_text value) held)
field_back IntMeta value held fits = int_back IntMeta value (of_type (is_null value) (is_int value) held) fits
field_back TextMeta value held fits = text_back TextMeta value refl (of_type (is_null value) (is_text value) held)
field_back BoolMeta value held fits = bool_back value (of_type (is_null value) (is_bool value) held)
field_back IntAux value held fits = elim (null_or_typed (is_null value) (is_int value) held) [
  | inl null ↦ inl (null_back IntAux value null)
  | inr typed ↦ inr (int_back IntAux value typed fits)
]
field_back TextAux value held fits = elim (null_or_typed (is_null value) (is_text value) held) [
  | inl null ↦ inl (null_back TextAux value null)
  | inr typed ↦ inr (marked_back value typed)
]
field_back BlobAux value held fits = elim (null_or_typed (is_null value) (is_blob value) held) [
  | inl null ↦ inl (null_back BlobAux value null)
  | inr typed ↦ inr (blob_back BlobAux value typed fits)
]

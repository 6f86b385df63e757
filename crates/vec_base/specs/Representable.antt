-- Values that their types in memory can hold: numbers of 64 bits with a sign, texts in UTF-8, and bytes.
use Rattle.std.specs.Prelude.{◌≡◌, ℕ, ◌^◌, ◌<◌, FitsSigned, true, List, slice_index, ⊤}
use Rattle.std.specs.Int.{w64}
use Rattle.std.specs.Str.{is_utf8}
use Rattle.vec_base.specs.declared.value.Value.{Value}
use Rattle.vec_base.specs.declared.value.Value.TheVariants.{Null, Int, Text, Blob, Int8, Bits}

abbrev pub AreBytes : List ℕ → Type 0
AreBytes bytes = (i : ℕ) → slice_index bytes i < 2 ^ 8

abbrev pub IsRepresentable : Value → Type 0
IsRepresentable Null = ⊤
IsRepresentable (Int n) = FitsSigned w64 n
IsRepresentable (Text text) = is_utf8 text ≡ true
IsRepresentable (Blob bytes) = AreBytes bytes
IsRepresentable (Int8 vector) = AreBytes vector
IsRepresentable (Bits bytes) = AreBytes bytes

-- The literal of a bit vector: two hexadecimal digits for each byte, as `0F`.
use Rattle.std.specs.Prelude.{◌≡◌, ℕ, ◌/◌, ◌%◌, ◌<◌, false, List, [], ◌∷◌, length, take, slice_index, Some, ⊤}
use Rattle.std.specs.List.{AllPass}
use Rattle.hex.specs.Hex.{hex_digit_value, is_hex_digit}
use Rattle.vec_literal.specs.declared.int8.LitFault.{LitFault}
use Rattle.vec_literal.specs.declared.int8.LitFault.TheVariants.{Place, Range, OddHex, Memory}

-- The text spells the bytes: for each a digit of its sixteens and then one of its ones, in either case.
abbrev pub SpellsBits : List ℕ → List ℕ → Type 0
SpellsBits [] [] = ⊤
SpellsBits (high ∷ low ∷ text) (byte ∷ bytes) =
    (hex_digit_value high ≡ Some (byte / 16)) × (hex_digit_value low ≡ Some (byte % 16)) × SpellsBits text bytes
SpellsBits _ _ = ⊥

-- The fault of a text that spells no bytes: an odd length, or else the place of the first byte that is no digit.
abbrev pub IsBitsFault : List ℕ → LitFault → Type 0
IsBitsFault text OddHex = length text % 2 ≡ 1
IsBitsFault text (Place k) =
    (length text % 2 ≡ 0) × (k < length text) × (is_hex_digit (slice_index text k) ≡ false) × AllPass is_hex_digit (take k text)
IsBitsFault text (Range index) = ⊥
IsBitsFault text Memory = ⊥

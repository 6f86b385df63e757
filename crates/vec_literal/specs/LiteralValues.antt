-- What text and blob literals stand for.
use Rattle.std.specs.Prelude.{ℕ, ◌+◌, ◌-◌, ◌*◌, Bool, true, false, ◌==◌, List, [], ◌∷◌, length, drop, slice_range}
use Rattle.std.specs.Option.{unwrap_or}
use Rattle.std.specs.Char.{digit_value}
use Rattle.vec_literal.specs.Tokens.{enclosed}

-- the text that a text literal stands for
abbrev pub text_value : List ℕ → List ℕ
text_value literal = unwrap_or (enclosed literal) []

-- what stands between the quotes of a text literal, as it is spelled
abbrev pub quoted_bytes : List ℕ → List ℕ
quoted_bytes literal = slice_range literal 1 (length literal - 1)

-- Bytes in which doubled quotes are read as one. The flag says that the byte before was the first quote of two.
abbrev pub undoubled : Bool → List ℕ → List ℕ
undoubled second [] = []
undoubled true (b ∷ bs) = undoubled false bs
undoubled false (b ∷ bs) = b ∷ undoubled (b == 39) bs

-- one byte for each pair of hexadecimal digits, up to a quote
abbrev pub paired_bytes : List ℕ → List ℕ
paired_bytes [] = []
paired_bytes (b ∷ []) = []
paired_bytes (high ∷ low ∷ digits) = (digit_value high * 16 + digit_value low) ∷ paired_bytes digits

-- the bytes that a blob literal stands for
abbrev pub blob_value : List ℕ → List ℕ
blob_value literal = paired_bytes (drop 2 literal)

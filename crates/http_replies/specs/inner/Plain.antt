-- Bytes that stand in a string as they are.
use Rattle.std.specs.Prelude.{◌≡◌, ℕ, ◌<◌, Bool, false, not, ◌&&◌, ◌==◌, nat_lt, List, ◌++◌, length}
use Rattle.json.specs.Print.{escape, escape_byte}

abbrev pub is_plain : ℕ → Bool
is_plain byte = not (nat_lt byte 32) && not (byte == 34) && not (byte == 92)

-- a text is a front that stands in a string as it is, a byte that does not, and what stands behind it
pub record SplitsText (text front : List ℕ) (special : ℕ) (behind : List ℕ) : Type 0 where
  pub whole : escape text ≡ (front ++ escape_byte special) ++ escape behind
  pub special_byte : is_plain special ≡ false
  pub shorter : length behind < length text

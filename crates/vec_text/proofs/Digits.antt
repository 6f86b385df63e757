-- Hexadecimal digits in capitals, of those in small letters and piece by piece.
use Rattle.std.proofs.Common.{◌≡◌, ℕ, true, nat_lt, ltb-true, ◌/◌, ◌%◌, List, [], ◌∷◌, ◌++◌, map, take, drop, slice_index, refl, sym, ◌∙◌, ap, subst}
use Rattle.std.specs.Char.{to_ascii_uppercase}
use Rattle.std.specs.List.{list_all}
use Rattle.std.specs.Str.{IsAscii, IsUtf8}
use Rattle.std.proofs.Math.ListN.{get_or-map}
use Rattle.std.proofs.lemmas.List.{take-append-drop}
use Rattle.std.proofs.lemmas.Bool.{and_parts}
use Rattle.std.proofs.lemmas.Str.Ascii.{IsAscii-nil, IsAscii-cons}
use Rattle.std.proofs.lemmas.Str.{IsUtf8-from_ascii}
use Rattle.hex.specs.Hex.{lower_digits, upper_digits, encode_lower, encode_upper, encode_with}
use Rattle.hex.proofs.HexLemmas.{IsAscii-encode_with}

-- a digit
raised : (n : ℕ) → to_ascii_uppercase (slice_index lower_digits n) ≡ slice_index upper_digits n
raised n = sym (get_or-map to_ascii_uppercase lower_digits n 0)

-- the digits of bytes
pub all_raised : (bytes : List ℕ) → map to_ascii_uppercase (encode_lower bytes) ≡ encode_upper bytes
unfolding encode_with
all_raised [] = refl
all_raised (b ∷ bs) =
    ap (λ (d : ℕ). d ∷ to_ascii_uppercase (slice_index lower_digits (b % 16)) ∷ map to_ascii_uppercase (encode_lower bs)) (raised (b / 16))
    ∙ ap (λ (d : ℕ). slice_index upper_digits (b / 16) ∷ d ∷ map to_ascii_uppercase (encode_lower bs)) (raised (b % 16))
    ∙ ap (λ (ds : List ℕ). slice_index upper_digits (b / 16) ∷ slice_index upper_digits (b % 16) ∷ ds) (all_raised bs)

-- by a test of each byte
all_ascii : (bytes : List ℕ) → list_all (λ b. nat_lt b 128) bytes ≡ true → IsAscii bytes
all_ascii [] h = IsAscii-nil
all_ascii (b ∷ bs) h =
    let both = and_parts (nat_lt b 128) (list_all (λ c. nat_lt c 128) bs) h in
    IsAscii-cons b bs (ltb-true b 128 both.0) (all_ascii bs both.1)

-- they are text
pub digits_utf8 : (bytes digits : List ℕ) → digits ≡ encode_upper bytes → IsUtf8 digits
digits_utf8 bytes digits e = subst (λ (ds : List ℕ). IsUtf8 ds) (sym e) (IsUtf8-from_ascii (encode_upper bytes) (IsAscii-encode_with upper_digits bytes (all_ascii upper_digits refl)))

encoded_append : (xs ys : List ℕ) → encode_upper (xs ++ ys) ≡ encode_upper xs ++ encode_upper ys
unfolding encode_with
encoded_append [] ys = refl
encoded_append (x ∷ xs) ys = ap (λ (ds : List ℕ). slice_index upper_digits (x / 16) ∷ slice_index upper_digits (x % 16) ∷ ds) (encoded_append xs ys)

-- the digits of the first bytes, and those of the others
pub encoded_parts : (n : ℕ) (first others bytes : List ℕ) → first ≡ take n bytes → others ≡ drop n bytes → encode_upper first ++ encode_upper others ≡ encode_upper bytes
encoded_parts n first others bytes e f = sym (encoded_append first others) ∙ ap encode_upper (ap (λ (z : List ℕ). z ++ others) e ∙ ap (λ (z : List ℕ). take n bytes ++ z) f ∙ take-append-drop n bytes)

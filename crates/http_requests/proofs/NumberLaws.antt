-- Numbers of decimal digits, as `parse` reads them.
use Rattle.std.proofs.Common.{◌≡◌, ℕ, zero, suc, ◌<◌, ◌≤◌, ◌^◌, Bool, true, false, cond, ◌&&◌, List, [], ◌∷◌, drop, None, refl, ◌∙◌, ap, subst, inl, inr, arith, nat_le}
use Rattle.std.proofs.lemmas.Bool.{and_parts, ne_eqb, cases_lt}
use Rattle.std.proofs.lemmas.Bool.Decides.{nat_tests}
use Rattle.std.proofs.lemmas.Str.{IsUtf8-from_ascii}
use Rattle.std.specs.Str.{IsAscii, IsUtf8}
use Rattle.std.specs.Str.Parse.{IsNumeral, AllDigits, digits_value, without_leading_plus}
use Rattle.std.specs.Char.{is_ascii_digit, digit_value}
use Rattle.std.specs.List.{list_all}
use Rattle.http_requests.specs.Numbers.{is_numeral, number_in}

digit_low : (b : ℕ) → is_ascii_digit b ≡ true → 48 ≤ b
digit_low b digit = grind (arith, nat_tests)

digit_ten : (b : ℕ) → is_ascii_digit b ≡ true → digit_value b < 10
digit_ten b digit = grind (arith, nat_tests)

digit_ascii : (b : ℕ) → is_ascii_digit b ≡ true → b < 128
digit_ascii b digit = grind (arith, nat_tests)

all_ascii : (bytes : List ℕ) → list_all is_ascii_digit bytes ≡ true → IsAscii bytes
all_ascii [] digits i = omega arith
all_ascii (b ∷ bytes) digits zero = digit_ascii b (and_parts _ _ digits).0
all_ascii (b ∷ bytes) digits (suc i) = all_ascii bytes (and_parts _ _ digits).1 i

all_digits : (bytes : List ℕ) → list_all is_ascii_digit bytes ≡ true → AllDigits 10 bytes
all_digits [] digits = tt
all_digits (b ∷ bytes) digits = (digit_ten b (and_parts _ _ digits).0, all_digits bytes (and_parts _ _ digits).1)

-- digits are text
pub numeral_text : (bytes : List ℕ) → is_numeral bytes ≡ true → IsUtf8 bytes
numeral_text bytes numeral = IsUtf8-from_ascii bytes (all_ascii bytes (and_parts _ _ numeral).1)

-- what passes the test is a numeral without a sign
numeral_plain : (bytes : List ℕ) → is_numeral bytes ≡ true → IsNumeral 10 bytes × (without_leading_plus bytes ≡ bytes)
numeral_plain [] numeral = absurd cc
numeral_plain (b ∷ bytes) numeral =
    let digits : list_all is_ascii_digit (b ∷ bytes) ≡ true = (and_parts _ _ numeral).1 in
    let low : 48 ≤ b = digit_low b (and_parts _ _ digits).0 in
    ((omega arith, all_digits (b ∷ bytes) digits), ap (λ (sign : Bool). drop (cond sign 1 0) (b ∷ bytes)) (ne_eqb b 43 (λ e. omega arith)))

and_false : (a : Bool) → (a && false) ≡ false
and_false true = refl
and_false false = refl

above : (value high : ℕ) → high < value → nat_le value high ≡ false
above value high passed = grind (arith, nat_tests)

-- digits that `parse` does not read are of a number that is too large
too_large : (low high : ℕ) (bytes : List ℕ) → high < 2 ^ 64 → is_numeral bytes ≡ true
    → (IsNumeral 10 (without_leading_plus bytes) × (digits_value 10 (without_leading_plus bytes) < 2 ^ 64) → ⊥) → None ≡ number_in low high bytes
too_large low high bytes fits numeral never =
    let plain = numeral_plain bytes numeral in
    let none : IsNumeral 10 bytes × (digits_value 10 bytes < 2 ^ 64) → ⊥ =
    subst (λ (l : List ℕ). IsNumeral 10 l × (digits_value 10 l < 2 ^ 64) → ⊥) plain.1 never in
    elim (cases_lt (digits_value 10 bytes) (2 ^ 64)) [
      | inl small ↦ absurd (none (plain.0, small))
      | inr large ↦ rw (above (digits_value 10 bytes) high (omega (arith, fits, large)), and_false (is_numeral bytes && nat_le low (digits_value 10 bytes))) refl
    ]

-- the number that `parse` reads is the one that the digits write
pub parsed : (bytes : List ℕ) (number : ℕ) → is_numeral bytes ≡ true → number ≡ digits_value 10 (without_leading_plus bytes) → number ≡ digits_value 10 bytes
parsed bytes number numeral is = is ∙ ap (digits_value 10) (numeral_plain bytes numeral).1

-- the same of a text with these bytes
pub text_too_large : (low high : ℕ) (bytes text : List ℕ) → text ≡ bytes → high < 2 ^ 64 → is_numeral bytes ≡ true
    → (IsNumeral 10 (without_leading_plus text) × (digits_value 10 (without_leading_plus text) < 2 ^ 64) → ⊥) → None ≡ number_in low high bytes
text_too_large low high bytes text same fits numeral never =
    too_large low high bytes fits numeral
    (subst (λ (l : List ℕ). IsNumeral 10 (without_leading_plus l) × (digits_value 10 (without_leading_plus l) < 2 ^ 64) → ⊥) same never)

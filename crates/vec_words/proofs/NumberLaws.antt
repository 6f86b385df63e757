-- Numbers of decimal digits, as `parse` reads them.
use Rattle.std.proofs.Common.{◌≡◌, ℕ, ◌<◌, ◌≤◌, ◌^◌, Bool, true, false, cond, ◌&&◌, List, [], ◌∷◌, drop, None, refl, ◌∙◌, ap, subst, inl, inr, arith, nat_le}
use Rattle.std.proofs.lemmas.Bool.{and_parts, ne_eqb, cases_lt}
use Rattle.std.proofs.lemmas.Bool.Decides.{nat_tests}
use Rattle.std.specs.Str.Parse.{IsNumeral, AllDigits, digits_value, without_leading_plus}
use Rattle.std.specs.Char.{is_ascii_digit, digit_value}
use Rattle.std.specs.List.{list_all}
use Rattle.vec_words.specs.Configs.{is_numeral, number_in}

digit_low : (b : ℕ) → is_ascii_digit b ≡ true → 48 ≤ b
digit_low b h = grind (arith, nat_tests)

digit_ten : (b : ℕ) → is_ascii_digit b ≡ true → digit_value b < 10
digit_ten b h = grind (arith, nat_tests)

digits_all : (ds : List ℕ) → list_all is_ascii_digit ds ≡ true → AllDigits 10 ds
digits_all [] h = tt
digits_all (d ∷ ds) h = (digit_ten d (and_parts _ _ h).0, digits_all ds (and_parts _ _ h).1)

-- what passes the test is a numeral without a sign
numeral : (text : List ℕ) → is_numeral text ≡ true → IsNumeral 10 text × (without_leading_plus text ≡ text)
numeral [] h = absurd cc
numeral (d ∷ ds) h =
    let digits : list_all is_ascii_digit (d ∷ ds) ≡ true = (and_parts _ _ h).1 in
    let low : 48 ≤ d = digit_low d (and_parts _ _ digits).0 in
    ((omega arith, digits_all (d ∷ ds) digits), ap (λ (b : Bool). drop (cond b 1 0) (d ∷ ds)) (ne_eqb d 43 (λ e. omega arith)))

and_false : (a : Bool) → (a && false) ≡ false
and_false true = refl
and_false false = refl

above : (value high : ℕ) → high < value → nat_le value high ≡ false
above value high h = grind (arith, nat_tests)

below : (value low : ℕ) → value < low → nat_le low value ≡ false
below value low h = grind (arith, nat_tests)

-- digits that `parse` does not read are of a number that is too large
pub too_large : (low high : ℕ) (text : List ℕ) → high < 2 ^ 64 → is_numeral text ≡ true
    → (IsNumeral 10 (without_leading_plus text) × (digits_value 10 (without_leading_plus text) < 2 ^ 64) → ⊥) → None ≡ number_in low high text
too_large low high text fits h never =
    let n = numeral text h in
    let none : IsNumeral 10 text × (digits_value 10 text < 2 ^ 64) → ⊥ =
    subst (λ (l : List ℕ). IsNumeral 10 l × (digits_value 10 l < 2 ^ 64) → ⊥) n.1 never in
    elim (cases_lt (digits_value 10 text) (2 ^ 64)) [
      | inl small ↦ absurd (none (n.0, small))
      | inr large ↦ rw (above (digits_value 10 text) high (omega (arith, fits, large)), and_false (is_numeral text && nat_le low (digits_value 10 text))) refl
    ]

-- the number that `parse` reads is the one that the digits write
pub parsed : (text : List ℕ) (number : ℕ) → is_numeral text ≡ true → number ≡ digits_value 10 (without_leading_plus text) → number ≡ digits_value 10 text
parsed text number h is = is ∙ ap (digits_value 10) (numeral text h).1

-- The decimal text of a number is a spelling of a number.
use Rattle.std.proofs.Common.{◌≡◌, ℕ, ◌^◌, ◌<◌, length, true, List, [], ◌∷◌, arith, rules}
use Rattle.std.specs.Char.{is_ascii_digit}
use Rattle.std.specs.Fmt.{decimal}
use Rattle.std.specs.List.{list_all}
use Rattle.std.specs.Str.Parse.{digits_value}
use Rattle.std.proofs.lemmas.Fmt.{decimal_nonempty, digits_decimal}
use Rattle.std.proofs.lemmas.Str.Parse.{IsDigitsTest, IsNumeralModel, numerals_by_value}
use Rattle.vec_literal.specs.Tokens.{is_number_text}

tells_digits : IsDigitsTest (λ ds. list_all is_ascii_digit ds ≡ true)
tells_digits = search rules

digits_model : IsNumeralModel (λ ds. list_all is_ascii_digit ds ≡ true) (digits_value 10)
digits_model = numerals_by_value (λ ds. list_all is_ascii_digit ds ≡ true) tells_digits

digits_number : (ds : List ℕ) → 0 < length ds → list_all is_ascii_digit ds ≡ true → is_number_text ds ≡ true
digits_number [] some h = absurd (omega arith)
digits_number (d ∷ ds) some h = h

pub decimal_number : (n : ℕ) → n < 2 ^ 64 → is_number_text (decimal n) ≡ true
decimal_number n few = digits_number (decimal n) (decimal_nonempty n few) (digits_decimal digits_model n few)

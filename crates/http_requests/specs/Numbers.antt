-- Numbers of decimal digits.
use Rattle.std.specs.Prelude.{ℕ, Bool, false, ◌&&◌, ◌==◌, List, [], ◌∷◌, Option, Some, None, length, nat_lt, nat_le, if◌then◌else◌}
use Rattle.std.specs.List.{list_all}
use Rattle.std.specs.Char.{is_ascii_digit}
use Rattle.std.specs.Str.Parse.{digits_value}
use Rattle.http_requests.specs.declared.number.TheConstants.{MOST_DIGITS}

-- 1 to 10 decimal digits
abbrev pub is_numeral : List ℕ → Bool
is_numeral digits = nat_lt 0 (length digits) && nat_le (length digits) MOST_DIGITS && list_all is_ascii_digit digits

-- the first byte is the digit 0
abbrev pub begins_with_zero : List ℕ → Bool
begins_with_zero [] = false
begins_with_zero (b ∷ bytes) = b == 48

-- the number that the digits write, from `low` to `high`
abbrev pub number_in : ℕ → ℕ → List ℕ → Option ℕ
number_in low high digits =
    if is_numeral digits && nat_le low (digits_value 10 digits) && nat_le (digits_value 10 digits) high then Some (digits_value 10 digits) else None

-- the number of a session or a cursor, without a zero in front
abbrev pub id_in : ℕ → List ℕ → Option ℕ
id_in high digits = if begins_with_zero digits then None else number_in 1 high digits

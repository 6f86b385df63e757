-- The decimal text of a number spells it.
use Rattle.std.proofs.Common.{◌≡◌, ℕ, ◌^◌, ◌<◌, length, get_or, eqb, true, false, not, ◌&&◌, inl, inr, List, [], ◌∷◌, refl, sym, ap, subst, arith, rules}
use Rattle.std.specs.Prelude.{pos, ◌-ℤ◌}
use Rattle.std.specs.Char.{is_ascii_digit}
use Rattle.std.specs.Fmt.{decimal}
use Rattle.std.specs.List.{list_all}
use Rattle.std.specs.Str.Parse.{digits_value}
use Rattle.std.proofs.lemmas.Bool.{and_parts, and_from, ne_eqb, not_from_false, cases_lt}
use Rattle.std.proofs.lemmas.Bool.Decides.{nat_tests}
use Rattle.std.proofs.lemmas.Fmt.{decimal_digit, decimal_nonempty, first_decimal, digits_decimal, digits_value-decimal}
use Rattle.std.proofs.lemmas.Str.Parse.{IsDigitsTest, IsNumeralModel, numerals_by_value}
use Rattle.vec_literal.specs.Int8.{is_digits, SpellsNumber}

-- nothing but digits
abbrev AreDigits : List ℕ → Type 0
AreDigits ds = list_all is_ascii_digit ds ≡ true

-- the words that std's lemmas on digits take
tells_digits : IsDigitsTest (λ ds. list_all is_ascii_digit ds ≡ true)
tells_digits = search rules

own : IsNumeralModel (λ ds. list_all is_ascii_digit ds ≡ true) (digits_value 10)
own = numerals_by_value (λ ds. list_all is_ascii_digit ds ≡ true) tells_digits

-- what `is_digits` says: digits, at least one, and only a lone one is a leading zero
abbrev Parts : List ℕ → Type 0
Parts ds = AreDigits ds × (0 < length ds) × (get_or ds 0 0 ≡ 48 → length ds ≡ 1)

digits_from : (ds : List ℕ) → Parts ds → is_digits ds ≡ true
digits_from [] h = absurd (let f : 0 < 0 = h.1 in omega arith)
digits_from (d ∷ []) h = let k = and_parts (is_ascii_digit d) true h.0 in k.0
digits_from (d ∷ e ∷ ds) h =
    let rest = list_all is_ascii_digit (e ∷ ds) in
    let k = and_parts (is_ascii_digit d) rest h.0 in
    let other : eqb d 48 ≡ false = ne_eqb d 48 (λ zero. let one = h.2 zero in omega arith) in
    and_from (is_ascii_digit d && not (eqb d 48)) rest (and_from (is_ascii_digit d) (not (eqb d 48)) k.0 (not_from_false (eqb d 48) other)) k.1

-- the decimal text of a number is such digits
decimal_digits : (n : ℕ) → n < 2 ^ 64 → is_digits (decimal n) ≡ true
decimal_digits n few =
    elim (cases_lt n 10) [
      | inl l ↦ subst (λ (ds : List ℕ). is_digits ds ≡ true) (sym (decimal_digit n l)) (grind (arith, nat_tests))
      | inr l ↦ digits_from (decimal n) (digits_decimal own n few, decimal_nonempty n few, λ e. absurd (let f = first_decimal n (omega arith) few in omega (arith, e, f)))
    ]

-- and the number is their value
decimal_value : (n : ℕ) → n < 2 ^ 64 → n ≡ digits_value 10 (decimal n)
decimal_value n few = sym (digits_value-decimal own n few)

-- so it spells the number, and behind a sign the negated one

pub plain_spelled : (n : ℕ) → n < 2 ^ 64 → SpellsNumber (decimal n) (pos n)
plain_spelled n few = (decimal n, decimal_digits n few, inl (refl, ap (λ (k : ℕ). pos k) (decimal_value n few)))

pub minus_spelled : (n : ℕ) → n < 2 ^ 64 → SpellsNumber (45 ∷ decimal n) (pos 0 -ℤ pos n)
minus_spelled n few = (decimal n, decimal_digits n few, inr (refl, ap (λ (k : ℕ). pos 0 -ℤ pos k) (decimal_value n few)))

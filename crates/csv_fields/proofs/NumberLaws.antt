-- Numbers in decimal, as `parse` reads them.
use Rattle.std.proofs.Common.{◌≡◌, ◌≢◌, ◌∙◌, ℕ, List, true, false, [], ◌∷◌, refl, sym, ap, subst, inl, inr, arith, suc}
use Rattle.std.specs.Prelude.{◌<◌, ◌^◌, ◌==◌, ℤ, pos, negsuc, neg_ℤ, FitsSigned, slice_index}
use Rattle.std.specs.Char.{digit_value}
use Rattle.std.specs.Fmt.{decimal, signed_decimal}
use Rattle.std.specs.Int.{w64}
use Rattle.std.specs.Str.Parse.{IsNumeral, digits_value, signed_digits_value, starts_with_minus, without_leading_plus, without_leading_sign}
use Rattle.std.proofs.lemmas.Bool.{eqb-true, ne_eqb, cases_eq}
use Rattle.std.proofs.lemmas.Int.{ints}
use Rattle.std.proofs.lemmas.Fmt.{decimal_is_IsNumeral}
use Rattle.csv_fields.specs.Fields.{SpellsInteger}

-- no digit is a sign
sign_first : (b : ℕ) (digits : List ℕ) → IsNumeral 10 (b ∷ digits) → (b ≢ 43) × (b ≢ 45)
sign_first b digits h =
    (λ plus. not_plus (subst (λ c. digit_value c < 10) plus h.1.0), λ minus. not_minus (subst (λ c. digit_value c < 10) minus h.1.0))
  where
    not_plus : digit_value 43 < 10 → ⊥
    not_plus below = omega arith

    not_minus : digit_value 45 < 10 → ⊥
    not_minus below = omega arith

-- what `parse` takes without a plus in front
abbrev pub Parsed : List ℕ → ℤ → Type 0
Parsed field n = IsNumeral 10 (without_leading_sign field) × (n ≡ signed_digits_value 10 field)

plain_sign : (b : ℕ) (digits : List ℕ) → b ≢ 43 → b ≢ 45 → (starts_with_minus (b ∷ digits) ≡ false) × (without_leading_plus (b ∷ digits) ≡ b ∷ digits)
plain_sign b digits plus minus = (ne_eqb b 45 minus, rw (ne_eqb b 43 plus) refl)

-- what spells a number is parsed to it
pub spelled_parsed : (field : List ℕ) (n : ℤ) → SpellsInteger field n → Parsed field n
spelled_parsed [] n (inl h) = absurd (let none : 0 < 0 = h.0.0 in omega arith)
spelled_parsed (b ∷ digits) n (inl h) =
    let no_sign = sign_first b digits h.0 in
    let plain = plain_sign b digits no_sign.0 no_sign.1 in
    rw (plain.0, plain.1) h
spelled_parsed field n (inr h) = rw h.1 (h.2, h.3)

minus_parsed : (b : ℕ) (digits : List ℕ) (n : ℤ) → b ≡ 45 → Parsed (b ∷ digits) n
    → (rest : List ℕ) × (b ∷ digits ≡ 45 ∷ rest) × IsNumeral 10 rest × (n ≡ neg_ℤ (pos (digits_value 10 rest)))
minus_parsed b digits n minus h =
    let at : Parsed (45 ∷ digits) n = subst (λ c. Parsed (c ∷ digits) n) minus h in
    (digits, ap (λ c. c ∷ digits) minus, at.0, at.1)

-- and what is parsed spells the number
pub parsed_spelled : (field : List ℕ) (n : ℤ) → (slice_index field 0 == 43) ≡ false → Parsed field n → SpellsInteger field n
parsed_spelled [] n plus h = absurd (let none : 0 < 0 = h.0.0 in omega arith)
parsed_spelled (b ∷ digits) n plus h = elim (cases_eq b 45) [
  | inl minus ↦ inr (minus_parsed b digits n minus h)
  | inr other ↦
      let plain = plain_sign b digits (λ e. absurd (cc (rw e at plus))) other in
      inl (rw (plain.0, plain.1) at h)
]

-- a `+` in front spells no number
pub plus_spells_none : (field : List ℕ) (n : ℤ) → (slice_index field 0 == 43) ≡ true → SpellsInteger field n → ⊥
plus_spells_none [] n plus (inl h) = let none : 0 < 0 = h.0.0 in omega arith
plus_spells_none (b ∷ digits) n plus (inl h) = (sign_first b digits h.0).0 (eqb-true b 43 plus)
plus_spells_none field n plus (inr h) = cc (rw h.1 at plus)

-- a field spells one number
pub one_number : (field : List ℕ) (n m : ℤ) → SpellsInteger field n → SpellsInteger field m → n ≡ m
one_number field n m a b = (spelled_parsed field n a).1 ∙ sym (spelled_parsed field m b).1

-- no number is spelled by no byte
pub none_spelled : (n : ℤ) → SpellsInteger [] n → ⊥
none_spelled n (inl h) = let none : 0 < 0 = h.0.0 in omega arith
none_spelled n (inr h) = cc h.1

below_pos : (k : ℕ) → FitsSigned w64 (pos k) → k < 2 ^ 64
below_pos k fits = omega (arith, ints, fits)

below_neg : (k : ℕ) → FitsSigned w64 (negsuc k) → suc k < 2 ^ 64
below_neg k fits = omega (arith, ints, fits)

-- the decimal text of a number spells it
pub decimal_spelled : (n : ℤ) → FitsSigned w64 n → SpellsInteger (signed_decimal n) n
decimal_spelled (pos k) fits =
    let numeral = decimal_is_IsNumeral k (below_pos k fits) in
    inl (numeral.0, ap pos (sym numeral.1))
decimal_spelled (negsuc k) fits =
    let numeral = decimal_is_IsNumeral (suc k) (below_neg k fits) in
    inr (decimal (suc k), refl, numeral.0, ap (λ d. neg_ℤ (pos d)) (sym numeral.1))

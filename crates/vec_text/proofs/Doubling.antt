-- Texts with each quote doubled, part by part.
use Rattle.std.proofs.Common.{◌≡◌, ℕ, suc, ◌+◌, ◌<◌, Bool, true, false, not, List, [], ◌∷◌, ◌++◌, length, take, drop, cond, ◌==◌, refl, sym, ◌∙◌, ap, arith, append_assoc, inl, inr}
use Rattle.std.specs.List.{position_or_len, before_first, after_first}
use Rattle.std.proofs.lemmas.Bool.{cond-true, cond-false, cases_Bool}
use Rattle.vec_text.specs.ValueTexts.{doubled}

abbrev is_quote : ℕ → Bool
is_quote b = b == 39

-- the first place of a quote, by the first byte

first_here : (b : ℕ) (bs : List ℕ) → (b == 39) ≡ true → position_or_len is_quote (b ∷ bs) ≡ 0
first_here b bs h = ap (λ (z : Bool). cond (not z) (1 + position_or_len is_quote bs) 0) h

first_later : (b : ℕ) (bs : List ℕ) → (b == 39) ≡ false → position_or_len is_quote (b ∷ bs) ≡ 1 + position_or_len is_quote bs
first_later b bs h = ap (λ (z : Bool). cond (not z) (1 + position_or_len is_quote bs) 0) h

-- what stands before the first quote stays, and the quote is doubled
quote_first : (left : List ℕ) → position_or_len is_quote left < length left → doubled left ≡ before_first is_quote left ++ 39 ∷ 39 ∷ doubled (after_first is_quote left)
quote_first [] within = absurd (omega arith)
quote_first (b ∷ bs) within =
    elim (cases_Bool (b == 39)) [
      | inl quote ↦
          cond-true (b == 39) (39 ∷ 39 ∷ doubled bs) (b ∷ doubled bs) quote
          ∙ ap (λ (n : ℕ). take n (b ∷ bs) ++ 39 ∷ 39 ∷ doubled (drop (n + 1) (b ∷ bs))) (sym (first_here b bs quote))
      | inr other ↦
          (let n : ℕ = position_or_len is_quote bs in
          let later : position_or_len is_quote (b ∷ bs) ≡ suc n = first_later b bs other ∙ (let e : 1 + position_or_len is_quote bs ≡ suc (position_or_len is_quote bs) = omega arith in e) in
          let next : suc n + 1 ≡ suc (n + 1) = omega arith in
          cond-false (b == 39) (39 ∷ 39 ∷ doubled bs) (b ∷ doubled bs) other
          ∙ ap (λ (z : List ℕ). b ∷ z) (quote_first bs (omega (arith, later)))
          ∙ ap (λ (m : ℕ). (b ∷ take n bs) ++ 39 ∷ 39 ∷ doubled (drop m (b ∷ bs))) (sym next)
          ∙ ap (λ (m : ℕ). take m (b ∷ bs) ++ 39 ∷ 39 ∷ doubled (drop (m + 1) (b ∷ bs))) (sym later))
    ]

-- without a quote a text stays
pub no_quote : (left : List ℕ) → position_or_len is_quote left ≡ length left → doubled left ≡ left
no_quote [] none = refl
no_quote (b ∷ bs) none =
    elim (cases_Bool (b == 39)) [
      | inl quote ↦ absurd (omega (arith, first_here b bs quote))
      | inr other ↦ cond-false (b == 39) (39 ∷ 39 ∷ doubled bs) (b ∷ doubled bs) other ∙ ap (λ (z : List ℕ). b ∷ z) (no_quote bs (omega (arith, first_later b bs other)))
    ]

-- a part before the first quote, the quote twice, and what stands behind it
pub part_doubled : (left before after : List ℕ) → position_or_len is_quote left < length left → before ≡ before_first is_quote left → after ≡ after_first is_quote left →
    (before ++ 39 ∷ 39 ∷ []) ++ doubled after ≡ doubled left
part_doubled left before after within first second =
    append_assoc before (39 ∷ 39 ∷ []) (doubled after)
    ∙ ap (λ (z : List ℕ). z ++ 39 ∷ 39 ∷ doubled after) first
    ∙ ap (λ (z : List ℕ). before_first is_quote left ++ 39 ∷ 39 ∷ doubled z) second
    ∙ sym (quote_first left within)

-- Marks take one byte or two.
use Rattle.std.proofs.Common.{◌≡◌, ℕ, zero, suc, ◌+◌, ◌-◌, ◌<◌, ◌≤◌, true, false, ◌⊎◌, inl, inr, List, [], ◌∷◌, length, take, drop, get_or, refl, sym, ◌∙◌, ap, subst, arith, length-drop}
use Rattle.std.proofs.lemmas.List.{drop_more, get_or-drop}
use Rattle.std.proofs.lemmas.Bool.{both_ways, and_parts, or_cases, leb-true}
use Rattle.std.proofs.lemmas.Slice.Eq.{bytes_eq-Decides}
use Rattle.std.specs.Prelude.{nat_le, bytes_eq}
use Rattle.std.specs.List.{list_all, list_any, slice_range}
use Rattle.vec_literal.specs.Tokens.{is_mark_text, marks}
use Rattle.vec_literal.specs.inner.Stretches.{EndsAt, EndsNowhere, is_single, is_pair}

-- bytes that equal one of some short texts are short
short_by : (bs : List ℕ) (ms : List (List ℕ)) → list_all (λ m. nat_le (length m) 2) ms ≡ true → list_any (λ m. bytes_eq bs m) ms ≡ true → length bs ≤ 2
short_by bs [] s h = absurd cc
short_by bs (m ∷ ms) s h =
    let p = and_parts (nat_le (length m) 2) (list_all (λ t. nat_le (length t) 2) ms) s in
    elim (or_cases (bytes_eq bs m) (list_any (λ t. bytes_eq bs t) ms) h) [
      | inl e ↦ (let same : bs ≡ m = (bytes_eq-Decides bs m).0 e in subst (λ (z : List ℕ). length z ≤ 2) (sym same) (leb-true (length m) 2 p.0))
      | inr e ↦ short_by bs ms p.1 e
    ]

-- no mark takes three bytes
mark_short : (b c d : ℕ) (bs : List ℕ) → is_mark_text (b ∷ c ∷ d ∷ bs) ≡ true → ⊥
mark_short b c d bs h = let short : length (b ∷ c ∷ d ∷ bs) ≤ 2 = short_by (b ∷ c ∷ d ∷ bs) marks refl h in omega arith

-- a mark at the front of some bytes, of one byte or of two
abbrev pub MarkSize : ℕ → List ℕ → ℕ → Type 0
MarkSize b bs m = ((m ≡ 1) × (is_single b ≡ true)) ⊎ ((m ≡ 2) × (1 ≤ length bs) × (is_pair b (get_or bs 0 0) ≡ true))

-- each mark there is such a one
pub mark_size : (b : ℕ) (bs : List ℕ) (m : ℕ) → m ≤ suc (length bs) → is_mark_text (take m (b ∷ bs)) ≡ true → MarkSize b bs m
mark_size b bs zero l h = absurd cc
mark_size b bs (suc zero) l h = inl (refl, h)
mark_size b [] (suc (suc m)) l h = absurd (omega arith)
mark_size b (c ∷ bs) (suc (suc zero)) l h = inr (refl, omega arith, h)
mark_size b (c ∷ []) (suc (suc (suc m))) l h = absurd (omega arith)
mark_size b (c ∷ d ∷ bs) (suc (suc (suc m))) l h = absurd (mark_short b c d (take m bs) h)

-- where a mark at a place can end
mark_at : (text : List ℕ) (from m : ℕ) → from < length text → from ≤ m → m ≤ length text → is_mark_text (slice_range text from m) ≡ true →
    ((m ≡ from + 1) × (is_single (get_or text from 0) ≡ true)) ⊎ ((m ≡ from + 2) × (from + 1 < length text) × (is_pair (get_or text from 0) (get_or text (from + 1) 0) ≡ true))
mark_at text from m l over within e =
    let b : ℕ = get_or text from 0 in
    let rest : List ℕ = drop (from + 1) text in
    let one : drop from text ≡ b ∷ rest = drop_more text from 0 l in
    let size : length (drop from text) ≡ length text - from = length-drop from text in
    let more : length rest ≡ length text - (from + 1) = length-drop (from + 1) text in
    let fits : MarkSize b rest (m - from) = mark_size b rest (m - from) (omega (arith, more)) (subst (λ (z : List ℕ). is_mark_text (take (m - from) z) ≡ true) one e) in
    elim fits [
      | inl p ↦ inl (omega (arith, p.0), p.1)
      | inr p ↦ (let next : get_or rest 0 0 ≡ get_or text (from + 1) 0 = get_or-drop (from + 1) text 0 0 ∙ ap (λ (z : ℕ). get_or text z 0) (let e : from + 1 + 0 ≡ from + 1 = omega arith in e) in
          inr (omega (arith, p.0), omega (arith, p.1, more), subst (λ (z : ℕ). is_pair b z ≡ true) next p.2))
    ]

-- the stretches of one byte and of two
one_byte : (text : List ℕ) (from : ℕ) → from < length text → slice_range text from (from + 1) ≡ get_or text from 0 ∷ []
one_byte text from l =
    let count : from + 1 - from ≡ 1 = omega arith in
    ap (λ (z : ℕ). take z (drop from text)) count ∙ ap (λ (z : List ℕ). take 1 z) (drop_more text from 0 l)

two_bytes : (text : List ℕ) (from : ℕ) → from + 1 < length text → slice_range text from (from + 2) ≡ get_or text from 0 ∷ get_or text (from + 1) 0 ∷ []
two_bytes text from l =
    let count : from + 2 - from ≡ 2 = omega arith in
    let rest : drop from text ≡ get_or text from 0 ∷ get_or text (from + 1) 0 ∷ drop (from + 1 + 1) text =
    drop_more text from 0 (omega arith) ∙ ap (λ (z : List ℕ). get_or text from 0 ∷ z) (drop_more text (from + 1) 0 l) in
    ap (λ (z : ℕ). take z (drop from text)) count ∙ ap (λ (z : List ℕ). take 2 z) rest

-- a mark of two bytes stands at the place
pub pair_ends : (text : List ℕ) (from : ℕ) → from + 1 < length text → is_pair (get_or text from 0) (get_or text (from + 1) 0) ≡ true → EndsAt is_mark_text text from (length text) (from + 2)
pair_ends text from l h = record {
  rising = omega arith;
  inside = omega arith;
  passed = subst (λ (z : List ℕ). is_mark_text z ≡ true) (sym (two_bytes text from l)) h;
  longest = λ m over within e. elim (mark_at text from m (omega arith) (omega arith) within e) [ inl p ↦ omega (arith, p.0) | inr p ↦ omega (arith, p.0) ];
}

-- a mark of one byte stands at the place, and none of two bytes
pub single_ends : (text : List ℕ) (from : ℕ) → from < length text → is_single (get_or text from 0) ≡ true →
    (from + 1 < length text → is_pair (get_or text from 0) (get_or text (from + 1) 0) ≡ true → ⊥) → EndsAt is_mark_text text from (length text) (from + 1)
single_ends text from l h unpaired = record {
  rising = omega arith;
  inside = omega arith;
  passed = subst (λ (z : List ℕ). is_mark_text z ≡ true) (sym (one_byte text from l)) h;
  longest = λ m over within e. elim (mark_at text from m l (omega arith) within e) [ inl p ↦ omega (arith, p.0) | inr p ↦ unpaired p.1 p.2 ];
}

-- no mark stands at the place
pub mark_nowhere : (text : List ℕ) (from : ℕ) → from < length text → is_single (get_or text from 0) ≡ false →
    (from + 1 < length text → is_pair (get_or text from 0) (get_or text (from + 1) 0) ≡ true → ⊥) → EndsNowhere is_mark_text text from (length text)
mark_nowhere text from l h unpaired = record {
  none = λ m over within e. elim (mark_at text from m l over within e) [ inl p ↦ both_ways (is_single (get_or text from 0)) h p.1 | inr p ↦ unpaired p.1 p.2 ];
}

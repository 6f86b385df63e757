-- Texts with escapes, part by part.
use Rattle.std.proofs.Common.{◌≡◌, ℕ, zero, suc, ◌+◌, ◌<◌, ◌≤◌, Bool, true, false, nat_lt, ◌==◌, List, [], ◌∷◌, ◌++◌, map, length, take, drop, get_or, cond, refl, sym, ◌∙◌, ap, subst, arith, ltb-true, inl, inr}
use Rattle.std.specs.List.{prefix_len, range_with_len}
use Rattle.std.proofs.lemmas.Bool.{cases_Bool, eqb-true, false≢true}
use Rattle.std.proofs.lemmas.List.FromFn.{get_or-map-range_with_len}
use Rattle.json.specs.Print.{escape, escape_byte}
use Rattle.http_replies.specs.inner.Plain.{is_plain, SplitsText}
use Rattle.http_replies.specs.declared.escape.TheConstants.{CONTROLS}

-- what the table has for control characters
controls_same : map escape_byte (range_with_len 0 32) ≡ map (λ text. text.now) CONTROLS
unfolding escape_byte
controls_same = refl

pub control_at : (b : ℕ) → b < 32 → get_or (map (λ text. text.now) CONTROLS) b [] ≡ escape_byte b
control_at b low =
    ap (λ (texts : List (List ℕ)). get_or texts b []) (sym controls_same)
    ∙ get_or-map-range_with_len escape_byte 0 32 b b [] low (let e : 0 + b ≡ b = omega arith in e)

-- the two characters with an escape that are no control characters
pub quote_escape : (b : ℕ) → b ≡ 34 → 92 ∷ 34 ∷ [] ≡ escape_byte b
unfolding escape_byte
quote_escape b e = rw e refl

pub backslash_escape : (b : ℕ) → b ≡ 92 → 92 ∷ 92 ∷ [] ≡ escape_byte b
unfolding escape_byte
backslash_escape b e = rw e refl

-- a number from 32 on is none below it
apart : (b k : ℕ) → nat_lt b 32 ≡ false → nat_lt k 32 ≡ true → (b == k) ≡ false
apart b k high low =
    elim (cases_Bool (b == k)) [
      | inl same ↦ absurd (false≢true (sym high ∙ ap (λ (n : ℕ). nat_lt n 32) (eqb-true b k same) ∙ low))
      | inr other ↦ other
    ]

plain_escape : (b : ℕ) → nat_lt b 32 ≡ false → (b == 34) ≡ false → (b == 92) ≡ false → escape_byte b ≡ b ∷ []
unfolding escape_byte
plain_escape b high quote backslash = rw (quote, backslash, apart b 8 high refl, apart b 12 high refl, apart b 10 high refl, apart b 13 high refl, apart b 9 high refl, high) refl

-- the three tests of a byte

not_plain_low : (b : ℕ) → nat_lt b 32 ≡ true → is_plain b ≡ false
not_plain_low b l = rw l refl

not_plain_quote : (b : ℕ) → nat_lt b 32 ≡ false → (b == 34) ≡ true → is_plain b ≡ false
not_plain_quote b l q = rw (l, q) refl

not_plain_backslash : (b : ℕ) → nat_lt b 32 ≡ false → (b == 34) ≡ false → (b == 92) ≡ true → is_plain b ≡ false
not_plain_backslash b l q s = rw (l, q, s) refl

is_plain-parts : (low quote backslash : Bool) → (b : ℕ) → nat_lt b 32 ≡ low → (b == 34) ≡ quote → (b == 92) ≡ backslash → is_plain b ≡ true → escape_byte b ≡ b ∷ []
is_plain-parts true quote backslash b l q s h = absurd (false≢true (sym (not_plain_low b l) ∙ h))
is_plain-parts false true backslash b l q s h = absurd (false≢true (sym (not_plain_quote b l q) ∙ h))
is_plain-parts false false true b l q s h = absurd (false≢true (sym (not_plain_backslash b l q s) ∙ h))
is_plain-parts false false false b l q s h = plain_escape b l q s

-- a plain byte stays
plain_stays : (b : ℕ) → is_plain b ≡ true → escape_byte b ≡ b ∷ []
plain_stays b h = is_plain-parts (nat_lt b 32) (b == 34) (b == 92) b refl refl refl h

special_parts : (low quote backslash : Bool) → (b : ℕ) → nat_lt b 32 ≡ low → (b == 34) ≡ quote → (b == 92) ≡ backslash → is_plain b ≡ false → b < 128
special_parts true quote backslash b l q s h = let low : b < 32 = ltb-true b 32 l in omega (arith, low)
special_parts false true backslash b l q s h = let same : b ≡ 34 = eqb-true b 34 q in omega (arith, same)
special_parts false false true b l q s h = let same : b ≡ 92 = eqb-true b 92 s in omega (arith, same)
special_parts false false false b l q s h = absurd (false≢true (sym h ∙ rw (l, q, s) refl))

-- a byte that does not stand as it is belongs to ASCII
pub special_low : (b : ℕ) → is_plain b ≡ false → b < 128
special_low b h = special_parts (nat_lt b 32) (b == 34) (b == 92) b refl refl refl h

-- how many bytes are plain, by the first one

plain_first : (b : ℕ) (bs : List ℕ) → is_plain b ≡ true → prefix_len is_plain (b ∷ bs) ≡ suc (prefix_len is_plain bs)
plain_first b bs h = ap (λ (z : Bool). cond z (1 + prefix_len is_plain bs) 0) h ∙ (let e : 1 + prefix_len is_plain bs ≡ suc (prefix_len is_plain bs) = omega arith in e)

special_first : (b : ℕ) (bs : List ℕ) → is_plain b ≡ false → prefix_len is_plain (b ∷ bs) ≡ 0
special_first b bs h = ap (λ (z : Bool). cond z (1 + prefix_len is_plain bs) 0) h

-- a text of plain bytes stays
pub all_plain : (bs : List ℕ) → length bs ≤ prefix_len is_plain bs → escape bs ≡ bs
all_plain [] all = refl
all_plain (b ∷ bs) all =
    elim (cases_Bool (is_plain b)) [
      | inl plain ↦ ap (λ (front : List ℕ). front ++ escape bs) (plain_stays b plain) ∙ ap (λ (z : List ℕ). b ∷ z) (all_plain bs (omega (arith, plain_first b bs plain, all)))
      | inr special ↦ absurd (omega (arith, special_first b bs special, all))
    ]

-- the first byte that is not plain
first_special : (bs : List ℕ) (n : ℕ) → prefix_len is_plain bs ≡ n → n < length bs → is_plain (get_or bs n 0) ≡ false
first_special [] n e lt = absurd (omega (arith, lt))
first_special (b ∷ bs) n e lt =
    elim (cases_Bool (is_plain b)) [
      | inl plain ↦
          (let same : suc (prefix_len is_plain bs) ≡ n = sym (plain_first b bs plain) ∙ e in
          subst (λ (k : ℕ). is_plain (get_or (b ∷ bs) k 0) ≡ false) same (first_special bs (prefix_len is_plain bs) refl (omega (arith, same, lt))))
      | inr special ↦ subst (λ (k : ℕ). is_plain (get_or (b ∷ bs) k 0) ≡ false) (sym (special_first b bs special) ∙ e) special
    ]

-- what stands before it stays, and what stands behind it gets escapes
escaped_parts : (bs : List ℕ) (n : ℕ) → prefix_len is_plain bs ≡ n → n < length bs → escape bs ≡ (take n bs ++ escape_byte (get_or bs n 0)) ++ escape (drop (suc n) bs)
escaped_parts [] n e lt = absurd (omega (arith, lt))
escaped_parts (b ∷ bs) n e lt =
    elim (cases_Bool (is_plain b)) [
      | inl plain ↦
          (let same : suc (prefix_len is_plain bs) ≡ n = sym (plain_first b bs plain) ∙ e in
          subst (λ (k : ℕ). escape (b ∷ bs) ≡ (take k (b ∷ bs) ++ escape_byte (get_or (b ∷ bs) k 0)) ++ escape (drop (suc k) (b ∷ bs))) same
          (ap (λ (front : List ℕ). front ++ escape bs) (plain_stays b plain)
          ∙ ap (λ (z : List ℕ). b ∷ z) (escaped_parts bs (prefix_len is_plain bs) refl (omega (arith, same, lt)))))
      | inr special ↦
          subst (λ (k : ℕ). escape (b ∷ bs) ≡ (take k (b ∷ bs) ++ escape_byte (get_or (b ∷ bs) k 0)) ++ escape (drop (suc k) (b ∷ bs)))
          (sym (special_first b bs special) ∙ e) refl
    ]

length_behind : (bs : List ℕ) (n : ℕ) → n < length bs → length (drop (suc n) bs) < length bs
length_behind [] n lt = absurd (omega (arith, lt))
length_behind (b ∷ bs) zero lt = omega arith
length_behind (b ∷ bs) (suc n) lt = let inner : length (drop (suc n) bs) < length bs = length_behind bs n (omega (arith, lt)) in omega (arith, inner)

pub splits : (bs : List ℕ) (n : ℕ) → prefix_len is_plain bs ≡ n → n < length bs → SplitsText bs (take n bs) (get_or bs n 0) (drop (suc n) bs)
splits bs n e lt = record {
  whole = escaped_parts bs n e lt;
  special_byte = first_special bs n e lt;
  shorter = length_behind bs n lt;
}

pub special_ascii : (bs : List ℕ) (n : ℕ) → prefix_len is_plain bs ≡ n → n < length bs → get_or bs n 0 < 128
special_ascii bs n e lt = special_low (get_or bs n 0) (first_special bs n e lt)

-- What a literal or a mark in front of some bytes adds to their tokens.
use Rattle.std.proofs.Common.{◌≡◌, ℕ, zero, suc, ◌+◌, ◌-◌, ◌^◌, ◌%◌, ◌/◌, ◌<◌, ◌≤◌, Bool, true, false, not, ◌||◌, ◌&&◌, inl, inr, List, [], ◌∷◌, ◌++◌, codes, length, take, drop, get_or, Option, Some, All, ◌==◌, refl, sym, ◌∙◌, ap, subst, arith, append_assoc, length-append, eq-eqb}
use Rattle.std.specs.Prelude.{ℤ, pos, negsuc, ◌≤ℤ◌, slice_index}
use Rattle.std.proofs.Math.Seq.{drop-append_seam, take-append-add}
use Rattle.std.proofs.lemmas.Bool.{and_parts, and_from, both_ways, not_from_false, not-true, cases_eq, cond-true, cond-false, ne_eqb}
use Rattle.std.proofs.lemmas.Bool.Decides.{nat_tests}
use Rattle.std.proofs.lemmas.Int.{ints}
use Rattle.std.proofs.lemmas.List.{append-nil}
use Rattle.std.proofs.lemmas.List.Elements.{All-head, All-tail}
use Rattle.std.proofs.lemmas.Str.{is_utf8-from_IsUtf8}
use Rattle.std.specs.Char.{is_ascii_digit, is_ascii_hexdigit}
use Rattle.std.specs.Fmt.{decimal, signed_decimal}
use Rattle.std.specs.List.{slice_range}
use Rattle.std.specs.Option.{option_map, option_map_or}
use Rattle.std.specs.Str.{IsUtf8, is_utf8}
use Rattle.vec_literal.specs.declared.token.TokenSort.TheVariants as sorts
use Rattle.vec_literal.specs.Lexemes.{Lexeme, number_lexeme, mark_lexeme, text_lexeme, blob_lexeme}
use Rattle.vec_literal.specs.inner.Stretches.{sort_at, is_single, is_pair, is_quoted_text, EndsAt}
use Rattle.vec_literal.specs.Tokens.{is_white, is_mark_text, begins_blob, is_hex_to_quote, is_spelling, unquoted, enclosed}
use Rattle.hex.specs.Hex.{encode_upper, encode_with}
use Rattle.vec_text.specs.ValueTexts.{doubled, quoted, blob_text}
use Rattle.vec_literal.proofs.Decimals.{decimal_number}
use Rattle.vec_literal.proofs.Following.{HasTokens, at_seam, past_seam, longer, front_slice, token_step, token_there, stops, unpaired, number_before, mark_before}
use Rattle.vec_literal.proofs.Marks.{pair_ends}
use Rattle.vec_literal.proofs.Sorts.{sort_front}
use Rattle.vec_literal.proofs.Texts.{map_map, map_same}

-- ---- where a token's tail ends

-- a stretch that goes over the end of the tail
over_tail : (lead tail rest : List ℕ) (m k : ℕ) → m ≡ length lead + length tail + k → slice_range (lead ++ (tail ++ rest)) (length lead) m ≡ tail ++ take k rest
over_tail lead tail rest m k e =
    let count : m - length lead ≡ length tail + k = omega (arith, e) in
    ap (λ (z : ℕ). take z (drop (length lead) (lead ++ (tail ++ rest)))) count
    ∙ ap (λ (z : List ℕ). take (length tail + k) z) (drop-append_seam lead (tail ++ rest))
    ∙ take-append-add tail rest k

-- the tail passes the test, and with more bytes it does not
pub record IsTail (test : List ℕ → Bool) (tail rest : List ℕ) : Type 0 where
  passed : test tail ≡ true
  longest : (k : ℕ) → 0 < k → k ≤ length rest → test (tail ++ take k rest) ≡ true → ⊥

ends_seam : (test : List ℕ → Bool) (lead tail rest : List ℕ) → IsTail test tail rest →
    EndsAt test (lead ++ (tail ++ rest)) (length lead) (length (lead ++ (tail ++ rest))) (length lead + length tail)
ends_seam test lead tail rest t = record {
  rising = omega arith;
  inside = omega (arith, length-append lead (tail ++ rest), length-append tail rest);
  passed = ap test (front_slice lead tail rest) ∙ t.passed;
  longest = λ m over within e.
      (let k : ℕ = m - (length lead + length tail) in
      t.longest k (omega arith) (omega (arith, length-append lead (tail ++ rest), length-append tail rest)) (sym (ap test (over_tail lead tail rest m k (omega arith))) ∙ e));
}

-- the same behind the first bytes of a token
ends_behind : (test : List ℕ → Bool) (before head tail rest : List ℕ) → IsTail test tail rest →
    EndsAt test (before ++ (head ++ (tail ++ rest))) (length before + length head) (length (before ++ (head ++ (tail ++ rest)))) (length before + length (head ++ tail))
ends_behind test before head tail rest t =
    let all : length before + length head + length tail ≡ length before + length (head ++ tail) = omega (arith, length-append head tail) in
    subst (λ (z : ℕ). EndsAt test (before ++ (head ++ (tail ++ rest))) (length before + length head) (length (before ++ (head ++ (tail ++ rest)))) z) all
    (subst (λ (z : ℕ). EndsAt test (before ++ (head ++ (tail ++ rest))) z (length (before ++ (head ++ (tail ++ rest)))) (z + length tail)) (length-append before head)
    (subst (λ (z : List ℕ). EndsAt test z (length (before ++ head)) (length z) (length (before ++ head) + length tail)) (append_assoc before head (tail ++ rest))
    (ends_seam test (before ++ head) tail rest t)))

-- ---- text literals

-- what stands before doubled quotes is read as it was before they were doubled
pub unquoted_doubled : (text rest : List ℕ) → unquoted false (doubled text ++ rest) ≡ option_map (λ body. text ++ body) (unquoted false rest)
unquoted_doubled [] rest = map_same (unquoted false rest)
unquoted_doubled (b ∷ bs) rest =
    elim (cases_eq b 39) [
      | inl same ↦
          ap (λ (z : List ℕ). unquoted false (z ++ rest)) (cond-true (b == 39) (39 ∷ 39 ∷ doubled bs) (b ∷ doubled bs) (eq-eqb b 39 same))
          ∙ ap (λ (o : Option (List ℕ)). option_map (λ body. 39 ∷ body) o) (unquoted_doubled bs rest)
          ∙ map_map (λ body. 39 ∷ body) (λ body. bs ++ body) (unquoted false rest)
          ∙ ap (λ (z : ℕ). option_map (λ body. z ∷ (bs ++ body)) (unquoted false rest)) (sym same)
      | inr other ↦
          ap (λ (z : List ℕ). unquoted false (z ++ rest)) (cond-false (b == 39) (39 ∷ 39 ∷ doubled bs) (b ∷ doubled bs) (ne_eqb b 39 other))
          ∙ cond-false (b == 39) _ _ (ne_eqb b 39 other)
          ∙ ap (λ (o : Option (List ℕ)). option_map (λ body. b ∷ body) o) (unquoted_doubled bs rest)
          ∙ map_map (λ body. b ∷ body) (λ body. bs ++ body) (unquoted false rest)
    ]

-- what a text's literal encloses is the text
pub enclosed_quoted : (text : List ℕ) → enclosed (quoted text) ≡ Some text
enclosed_quoted text = unquoted_doubled text (39 ∷ []) ∙ ap (λ (z : List ℕ). Some z) (append-nil text)

-- no quote follows
abbrev pub ends_quote : List ℕ → Bool
ends_quote [] = true
ends_quote (b ∷ bs) = not (b == 39)

-- nothing is quoted where more bytes follow the last quote
beyond_quote : (text : List ℕ) (c : ℕ) (cs : List ℕ) → (c == 39) ≡ false → is_quoted_text (doubled text ++ 39 ∷ c ∷ cs) ≡ false
beyond_quote text c cs other =
    ap (λ (o : Option (List ℕ)). option_map_or is_utf8 o false)
    (unquoted_doubled text (39 ∷ c ∷ cs) ∙ ap (λ (o : Option (List ℕ)). option_map (λ body. text ++ body) o) (cond-false (c == 39) _ _ other))

quoted_longest : (text rest : List ℕ) → ends_quote rest ≡ true → (k : ℕ) → 0 < k → k ≤ length rest → is_quoted_text ((doubled text ++ 39 ∷ []) ++ take k rest) ≡ true → ⊥
quoted_longest text rest e zero some few h = absurd (omega arith)
quoted_longest text [] e (suc k) some few h = absurd (omega arith)
quoted_longest text (c ∷ cs) e (suc k) some few h =
    both_ways _ (beyond_quote text c (take k cs) (not-true (c == 39) e)) (sym (ap (λ (z : List ℕ). is_quoted_text z) (append_assoc (doubled text) (39 ∷ []) (c ∷ take k cs))) ∙ h)

quoted_tail : (text rest : List ℕ) → IsUtf8 text → ends_quote rest ≡ true → IsTail is_quoted_text (doubled text ++ 39 ∷ []) rest
quoted_tail text rest u e = record {
  passed = ap (λ (o : Option (List ℕ)). option_map_or is_utf8 o false) (enclosed_quoted text) ∙ is_utf8-from_IsUtf8 text u;
  longest = quoted_longest text rest e;
}

pub text_before : (text rest : List ℕ) (words : List Lexeme) → IsUtf8 text → ends_quote rest ≡ true → HasTokens rest words → HasTokens (quoted text ++ rest) (text_lexeme (quoted text) ∷ words)
text_before text rest words u e h =
    let tail : List ℕ = doubled text ++ 39 ∷ [] in
    record {
      behind = λ before. token_step sorts.TextLit before 39 tail rest words h refl
          (token_there sorts.TextLit before (39 ∷ (tail ++ rest)) 39 (tail ++ rest) (length before + length (39 ∷ tail)) refl (quote_sort (tail ++ rest))
          (ends_behind is_quoted_text before (39 ∷ []) tail rest (quoted_tail text rest u e)));
    }
  where
    quote_sort : (bytes : List ℕ) → sort_at (39 ∷ bytes) ≡ sorts.TextLit
    quote_sort [] = refl
    quote_sort (b ∷ bs) = refl

-- ---- blob literals

abbrev pub AllBytes : List ℕ → Type 0
AllBytes bytes = All (λ b. b < 2 ^ 8) bytes

-- the digits of the table
abbrev upper_digit : ℕ → ℕ
upper_digit n = slice_index (codes "0123456789ABCDEF") n

-- the test holds of each digit of the table from a number on
abbrev holds_from : (ℕ → Bool) → ℕ → ℕ → Bool
holds_from test zero at = true
holds_from test (suc n) at = test (upper_digit at) && holds_from test n (suc at)

holds_there : (test : ℕ → Bool) (n at i : ℕ) → holds_from test n at ≡ true → i < n → test (upper_digit (at + i)) ≡ true
holds_there test zero at i h less = absurd (omega arith)
holds_there test (suc n) at zero h less =
    let same : at + 0 ≡ at = omega arith in
    ap (λ (z : ℕ). test (upper_digit z)) same ∙ (and_parts (test (upper_digit at)) (holds_from test n (suc at)) h).0
holds_there test (suc n) at (suc i) h less =
    let same : at + suc i ≡ suc at + i = omega arith in
    ap (λ (z : ℕ). test (upper_digit z)) same ∙ holds_there test n (suc at) i (and_parts (test (upper_digit at)) (holds_from test n (suc at)) h).1 (omega arith)

upper_hex : (n : ℕ) → n < 16 → is_ascii_hexdigit (upper_digit n) ≡ true
upper_hex n few =
    let same : n ≡ 0 + n = omega arith in
    ap (λ (z : ℕ). is_ascii_hexdigit (upper_digit z)) same ∙ holds_there is_ascii_hexdigit 16 0 n refl few

byte_hex : (b : ℕ) → b < 2 ^ 8 → (is_ascii_hexdigit (upper_digit (b / 16)) && is_ascii_hexdigit (upper_digit (b % 16))) ≡ true
byte_hex b few = and_from _ _ (upper_hex (b / 16) (omega (arith, few))) (upper_hex (b % 16) (omega (arith, few)))

-- behind pairs of digits stands what ends them
hex_over : (bytes rest : List ℕ) → AllBytes bytes → is_hex_to_quote (encode_upper bytes ++ rest) ≡ is_hex_to_quote rest
unfolding encode_with
hex_over [] rest h = refl
hex_over (b ∷ bs) rest h =
    ap (λ (z : Bool). z && is_hex_to_quote (encode_upper bs ++ rest)) (byte_hex b (All-head (λ c. c < 2 ^ 8) b bs h))
    ∙ hex_over bs rest (All-tail (λ c. c < 2 ^ 8) b bs h)

hex_longest : (bytes rest : List ℕ) → AllBytes bytes → (k : ℕ) → 0 < k → k ≤ length rest → is_hex_to_quote ((encode_upper bytes ++ 39 ∷ []) ++ take k rest) ≡ true → ⊥
hex_longest bytes rest b zero some few h = absurd (omega arith)
hex_longest bytes [] b (suc k) some few h = absurd (omega arith)
hex_longest bytes (c ∷ cs) b (suc k) some few h =
    both_ways _ (hex_over bytes (39 ∷ c ∷ take k cs) b) (sym (ap (λ (z : List ℕ). is_hex_to_quote z) (append_assoc (encode_upper bytes) (39 ∷ []) (c ∷ take k cs))) ∙ h)

hex_tail : (bytes rest : List ℕ) → AllBytes bytes → IsTail is_hex_to_quote (encode_upper bytes ++ 39 ∷ []) rest
hex_tail bytes rest b = record { passed = hex_over bytes (39 ∷ []) b; longest = hex_longest bytes rest b }

pub blob_before : (bytes rest : List ℕ) (words : List Lexeme) → AllBytes bytes → HasTokens rest words → HasTokens (blob_text bytes ++ rest) (blob_lexeme (blob_text bytes) ∷ words)
blob_before bytes rest words b h =
    let tail : List ℕ = encode_upper bytes ++ 39 ∷ [] in
    record {
      behind = λ before. token_step sorts.BlobLit before 88 (39 ∷ tail) rest words h refl
          (token_there sorts.BlobLit before (88 ∷ 39 ∷ (tail ++ rest)) 88 (39 ∷ (tail ++ rest)) (length before + length (88 ∷ 39 ∷ tail)) refl refl
          (ends_behind is_hex_to_quote before (88 ∷ 39 ∷ []) tail rest (hex_tail bytes rest b)));
    }

-- ---- marks

pair_no_blob : (b c : ℕ) (bs : List ℕ) → is_pair b c ≡ true → begins_blob (b ∷ c ∷ bs) ≡ false
pair_no_blob b c bs h = grind (arith, nat_tests)

pair_no_white : (b c : ℕ) → is_pair b c ≡ true → is_white b ≡ false
pair_no_white b c h = grind (arith, nat_tests)

sort_pair : (b c : ℕ) (bs : List ℕ) → is_pair b c ≡ true → sort_at (b ∷ c ∷ bs) ≡ sorts.Mark
unfolding is_spelling
sort_pair b c bs h = sort_front sorts.Mark 2 (b ∷ c ∷ bs) (omega arith) (and_from _ _ h (not_from_false (begins_blob (b ∷ c ∷ bs)) (pair_no_blob b c bs h)))

pair_there : (before : List ℕ) (b c : ℕ) (rest : List ℕ) → is_pair b c ≡ true →
    EndsAt is_mark_text (before ++ b ∷ c ∷ rest) (length before + 0) (length (before ++ b ∷ c ∷ rest)) (length before + 2)
pair_there before b c rest p =
    let text : List ℕ = before ++ b ∷ c ∷ rest in
    let some : length before + 1 < length (before ++ b ∷ c ∷ rest) = omega (arith, longer before b (c ∷ rest)) in
    let same : length before ≡ length before + 0 = omega arith in
    let first : is_pair (get_or (before ++ b ∷ c ∷ rest) (length before) 0) (get_or (before ++ b ∷ c ∷ rest) (length before + 1) 0) ≡ true =
    ap (λ (z : ℕ). is_pair z (get_or (before ++ b ∷ c ∷ rest) (length before + 1) 0)) (at_seam before b (c ∷ rest)) ∙ ap (λ (z : ℕ). is_pair b z) (past_seam before b c rest) ∙ p in
    subst (λ (z : ℕ). EndsAt is_mark_text (before ++ b ∷ c ∷ rest) z (length (before ++ b ∷ c ∷ rest)) (length before + 2)) same (pair_ends (before ++ b ∷ c ∷ rest) (length before) some first)

-- a mark of two bytes
pub pair_before : (b c : ℕ) (rest : List ℕ) (words : List Lexeme) → is_pair b c ≡ true → HasTokens rest words → HasTokens (b ∷ c ∷ rest) (mark_lexeme (b ∷ c ∷ []) ∷ words)
pair_before b c rest words p h = record {
  behind = λ before. token_step sorts.Mark before b (c ∷ []) rest words h (pair_no_white b c p)
      (token_there sorts.Mark before (b ∷ c ∷ rest) b (c ∷ rest) (length before + 2) refl (sort_pair b c rest p) (pair_there before b c rest p));
}

-- `( ) [ ] , ; * + -`, which are no marks together with another byte
abbrev pub is_lone : ℕ → Bool
is_lone b = b == 40 || b == 41 || b == 91 || b == 93 || b == 44 || b == 59 || b == 42 || b == 43 || b == 45

lone_single : (b : ℕ) → is_lone b ≡ true → is_single b ≡ true
lone_single b h = grind (arith, nat_tests)

lone_no_pair : (b c : ℕ) → is_lone b ≡ true → is_pair b c ≡ false
lone_no_pair b c h = grind (arith, nat_tests)

lone_unpaired : (b : ℕ) (rest : List ℕ) → is_lone b ≡ true → unpaired b rest ≡ true
lone_unpaired b [] h = refl
lone_unpaired b (c ∷ cs) h = not_from_false (is_pair b c) (lone_no_pair b c h)

-- such a mark, whatever follows it
pub lone_before : (b : ℕ) (rest : List ℕ) (words : List Lexeme) → is_lone b ≡ true → HasTokens rest words → HasTokens (b ∷ rest) (mark_lexeme (b ∷ []) ∷ words)
lone_before b rest words l h = mark_before b rest words (lone_single b l) (lone_unpaired b rest l) h

-- ---- signed numbers

-- the tokens of a number: `-` and digits, or digits
abbrev pub signed_lexemes : ℤ → List Lexeme
signed_lexemes (pos n) = number_lexeme (decimal n) ∷ []
signed_lexemes (negsuc n) = mark_lexeme (codes "-") ∷ number_lexeme (decimal (suc n)) ∷ []

-- from -9,223,372,036,854,775,808 to 9,223,372,036,854,775,807
abbrev pub IsSmall : ℤ → Type 0
IsSmall z = (negsuc (2 ^ 63 - 1) ≤ℤ z) × (z ≤ℤ pos (2 ^ 63 - 1))

pub signed_before : (z : ℤ) (rest : List ℕ) (words : List Lexeme) → IsSmall z → stops is_ascii_digit rest ≡ true → HasTokens rest words →
    HasTokens (signed_decimal z ++ rest) (signed_lexemes z ++ words)
signed_before (pos n) rest words few e h = number_before (decimal n) rest words (decimal_number n (omega (arith, ints, few.1))) e h
signed_before (negsuc n) rest words few e h =
    lone_before 45 (decimal (suc n) ++ rest) (number_lexeme (decimal (suc n)) ∷ words) refl
    (number_before (decimal (suc n)) rest words (decimal_number (suc n) (omega (arith, ints, few.0))) e h)

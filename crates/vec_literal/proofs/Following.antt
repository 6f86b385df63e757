-- The tokens of a text that is put together from its end: what one token or a space in front of some bytes adds.
use Rattle.std.proofs.Common.{◌≡◌, ℕ, suc, ◌+◌, ◌-◌, ◌<◌, Bool, true, false, not, ◌||◌, ◌&&◌, List, [], ◌∷◌, ◌++◌, length, take, drop, get_or, Some, ◌==◌, map, refl, sym, ◌∙◌, ap, subst, arith, append_assoc, length-append}
use Rattle.std.proofs.Math.Seq.{drop-append_seam, drop-append-add, take-append_seam}
use Rattle.std.proofs.lemmas.Bool.{and_parts, and_from, both_ways, not-true, not_from_false, cond-true, cond-false}
use Rattle.std.proofs.lemmas.Bool.Decides.{nat_tests}
use Rattle.std.proofs.lemmas.List.{append-nil}
use Rattle.std.specs.Char.{is_ascii_digit}
use Rattle.std.specs.List.{list_all, prefix_len, slice_range}
use Rattle.vec_literal.specs.declared.token.Token.{Token as Found}
use Rattle.vec_literal.specs.declared.token.TokenSort.{TokenSort}
use Rattle.vec_literal.specs.declared.token.TokenSort.TheVariants as sorts
use Rattle.vec_literal.specs.Lexemes.{Lexeme, lexeme_of, lexemes, word_lexeme, number_lexeme, mark_lexeme}
use Rattle.vec_literal.specs.inner.Stretches.{sort_at, is_single, is_pair, EndsAt, IsTokenAt}
use Rattle.vec_literal.specs.Tokens.{is_white, is_letter, is_word_byte, is_word_text, is_number_text, begins_blob, is_mark_text, is_spelling, IsWhite, tokens}
use Rattle.vec_literal.proofs.Lexing.{white_left_out, tokens_end, tokens_found}
use Rattle.vec_literal.proofs.Marks.{single_ends}
use Rattle.vec_literal.proofs.Runs.{run_to}
use Rattle.vec_literal.proofs.Sorts.{sort_front, token_with, tail_test, head_size}

-- whatever stands before the bytes, their tokens are these
pub record HasTokens (bytes : List ℕ) (words : List Lexeme) : Type 0 where
  pub behind : (before : List ℕ) → map lexeme_of (tokens (before ++ bytes) (length before)) ≡ words

-- a whole text has these tokens
pub whole_text : (bytes : List ℕ) (words : List Lexeme) → HasTokens bytes words → lexemes bytes ≡ words
whole_text bytes words h = h.behind []

-- no bytes have no tokens
pub has_nothing : HasTokens [] []
has_nothing = record {
  behind = λ before. ap (λ ts. map lexeme_of ts) (tokens_end (before ++ []) (length before) (ap length (sym (append-nil before))));
}

-- the tokens behind a front
moved : (front rest : List ℕ) (words : List Lexeme) → HasTokens rest words → (before : List ℕ) →
    map lexeme_of (tokens (before ++ (front ++ rest)) (length before + length front)) ≡ words
moved front rest words h before =
    ap (λ text. map lexeme_of (tokens text (length before + length front))) (sym (append_assoc before front rest))
    ∙ ap (λ at. map lexeme_of (tokens ((before ++ front) ++ rest) at)) (sym (length-append before front))
    ∙ h.behind (before ++ front)

-- the byte behind a front
pub at_seam : (before : List ℕ) (b : ℕ) (bs : List ℕ) → get_or (before ++ b ∷ bs) (length before) 0 ≡ b
at_seam [] b bs = refl
at_seam (x ∷ xs) b bs = at_seam xs b bs

-- and the next one
pub past_seam : (before : List ℕ) (b c : ℕ) (bs : List ℕ) → get_or (before ++ b ∷ c ∷ bs) (length before + 1) 0 ≡ c
past_seam [] b c bs = refl
past_seam (x ∷ xs) b c bs =
    let next : length (x ∷ xs) + 1 ≡ suc (length xs + 1) = omega arith in
    ap (λ (z : ℕ). get_or (x ∷ (xs ++ b ∷ c ∷ bs)) z 0) next ∙ past_seam xs b c bs

pub longer : (before : List ℕ) (b : ℕ) (bs : List ℕ) → length before + suc (length bs) ≡ length (before ++ b ∷ bs)
longer before b bs = sym (length-append before (b ∷ bs))

-- ---- a space

white_there : (before : List ℕ) (b : ℕ) (bs : List ℕ) → is_white b ≡ true → IsWhite (before ++ b ∷ bs) (length before) (length before + 1)
white_there before b bs h = record {
  rising = omega arith;
  inside = omega (arith, longer before b bs);
  white = λ k low high. (let same : length before ≡ k = omega arith in
      subst (λ (z : ℕ). is_white (get_or (before ++ b ∷ bs) z 0) ≡ true) same (ap (λ (z : ℕ). is_white z) (at_seam before b bs) ∙ h));
}

pub space_before : (rest : List ℕ) (words : List Lexeme) → HasTokens rest words → HasTokens (32 ∷ rest) words
space_before rest words h = record {
  behind = λ before. (
      ap (λ ts. map lexeme_of ts) (white_left_out (before ++ 32 ∷ rest) (length before) (length before + 1) (white_there before 32 rest refl))
      ∙ moved (32 ∷ []) rest words h before);
}

-- ---- a token

-- the token of a front
abbrev pub found : TokenSort → List ℕ → List ℕ → Found
found sort before front = record { sort = sort; from = length before; upto = length before + length front }

pub front_slice : (before front rest : List ℕ) → slice_range (before ++ (front ++ rest)) (length before) (length before + length front) ≡ front
front_slice before front rest =
    let count : length before + length front - length before ≡ length front = omega arith in
    ap (λ (z : ℕ). take z (drop (length before) (before ++ (front ++ rest)))) count
    ∙ ap (λ (z : List ℕ). take (length front) z) (drop-append_seam before (front ++ rest))
    ∙ take-append_seam front rest

-- what a token in front of the bytes adds
pub token_step : (sort : TokenSort) (before : List ℕ) (b : ℕ) (bs rest : List ℕ) (words : List Lexeme) → HasTokens rest words → is_white b ≡ false →
    IsTokenAt (before ++ (b ∷ bs ++ rest)) (length before) (found sort before (b ∷ bs)) →
    map lexeme_of (tokens (before ++ (b ∷ bs ++ rest)) (length before)) ≡ record { sort = Some sort; spelling = b ∷ bs } ∷ words
token_step sort before b bs rest words h w t =
    ap (λ ts. map lexeme_of ts) (tokens_found (before ++ (b ∷ bs ++ rest)) (found sort before (b ∷ bs)) t.token (ap (λ (z : ℕ). is_white z) (at_seam before b (bs ++ rest)) ∙ w))
    ∙ ap (λ (z : List ℕ). record { sort = Some sort; spelling = z } ∷ map lexeme_of (tokens (before ++ (b ∷ bs ++ rest)) (length before + length (b ∷ bs)))) (front_slice before (b ∷ bs) rest)
    ∙ ap (λ (z : List Lexeme). record { sort = Some sort; spelling = b ∷ bs } ∷ z) (moved (b ∷ bs) rest words h before)

-- ---- runs

-- the run does not go on
abbrev pub stops : (ℕ → Bool) → List ℕ → Bool
stops test [] = true
stops test (b ∷ bs) = not (test b)

run_length : (test : ℕ → Bool) (bs rest : List ℕ) → list_all test bs ≡ true → stops test rest ≡ true → prefix_len test (bs ++ rest) ≡ length bs
run_length test [] [] h s = refl
run_length test [] (c ∷ cs) h s = cond-false (test c) _ _ (not-true (test c) s)
run_length test (b ∷ bs) rest h s =
    let p = and_parts (test b) (list_all test bs) h in
    let rec : prefix_len test (bs ++ rest) ≡ length bs = run_length test bs rest p.1 s in
    let first : prefix_len test (b ∷ (bs ++ rest)) ≡ 1 + prefix_len test (bs ++ rest) = cond-true (test b) _ _ p.0 in
    omega (arith, rec, first)

-- the run behind the first byte of a front ends where the front does
run_there : (test : ℕ → Bool) (before : List ℕ) (b : ℕ) (bs rest : List ℕ) → list_all test bs ≡ true → stops test rest ≡ true →
    EndsAt (list_all test) (before ++ (b ∷ bs ++ rest)) (length before + 1) (length (before ++ (b ∷ bs ++ rest))) (length before + length (b ∷ bs))
run_there test before b bs rest h s =
    let text : List ℕ = before ++ (b ∷ (bs ++ rest)) in
    let left : drop (length before + 1) text ≡ bs ++ rest = drop-append-add before (b ∷ (bs ++ rest)) 1 in
    let run : prefix_len test (drop (length before + 1) text) ≡ length bs = ap (λ (z : List ℕ). prefix_len test z) left ∙ run_length test bs rest h s in
    run_to test text (length before + 1) (length before + length (b ∷ bs)) (omega (arith, longer before b (bs ++ rest))) (omega (arith, run))

-- ---- words

-- no word goes on there, and no blob begins
abbrev pub ends_word : List ℕ → Bool
ends_word [] = true
ends_word (b ∷ bs) = not (is_word_byte b) && not (b == 39)

word_stops : (rest : List ℕ) → ends_word rest ≡ true → stops is_word_byte rest ≡ true
word_stops [] h = refl
word_stops (b ∷ bs) h = (and_parts (not (is_word_byte b)) (not (b == 39)) h).0

and_false : (x y : Bool) → y ≡ false → (x && y) ≡ false
and_false true y h = h
and_false false y h = refl

pub false_and : (x y : Bool) → x ≡ false → (x && y) ≡ false
false_and true y h = absurd cc
false_and false y h = refl

no_quote : (b : ℕ) → is_word_byte b ≡ true → (b == 39) ≡ false
no_quote b h = grind (arith, nat_tests)

word_no_blob : (b : ℕ) (bs rest : List ℕ) → list_all is_word_byte bs ≡ true → ends_word rest ≡ true → begins_blob (b ∷ (bs ++ rest)) ≡ false
word_no_blob b [] [] h e = refl
word_no_blob b [] (c ∷ cs) h e = and_false (b == 120 || b == 88) (c == 39) (not-true (c == 39) (and_parts (not (is_word_byte c)) (not (c == 39)) e).1)
word_no_blob b (c ∷ cs) rest h e = and_false (b == 120 || b == 88) (c == 39) (no_quote c (and_parts (is_word_byte c) (list_all is_word_byte cs) h).0)

letter_no_white : (b : ℕ) → is_letter b ≡ true → is_white b ≡ false
letter_no_white b h = grind (arith, nat_tests)

sort_word : (b : ℕ) (bs : List ℕ) → begins_blob (b ∷ bs) ≡ false → is_letter b ≡ true → sort_at (b ∷ bs) ≡ sorts.Word
sort_word b bs n l = cond-false (begins_blob (b ∷ bs)) _ _ n ∙ cond-true (is_letter b) _ _ l

-- a token of a sort that the bytes behind the seam tell
pub token_there : (sort : TokenSort) (before bytes : List ℕ) (b : ℕ) (bs : List ℕ) (upto : ℕ) → bytes ≡ b ∷ bs → sort_at bytes ≡ sort → EndsAt (tail_test sort) (before ++ bytes) (length before + head_size sort) (length (before ++ bytes)) upto →
    IsTokenAt (before ++ bytes) (length before) (record { sort = sort; from = length before; upto = upto })
token_there sort before bytes b bs upto e s ends =
    let some : length before < length (before ++ bytes) = omega (arith, length-append before bytes, ap length e) in
    token_with sort sort (before ++ bytes) (length before) upto some (sym (ap (λ (z : List ℕ). sort_at z) (drop-append_seam before bytes) ∙ s)) refl ends

pub word_before : (front rest : List ℕ) (words : List Lexeme) → is_word_text front ≡ true → ends_word rest ≡ true → HasTokens rest words → HasTokens (front ++ rest) (word_lexeme front ∷ words)
word_before [] rest words f e h = absurd cc
word_before (b ∷ bs) rest words f e h =
    let p = and_parts (is_letter b) (list_all is_word_byte bs) f in
    record {
      behind = λ before. token_step sorts.Word before b bs rest words h (letter_no_white b p.0)
          (token_there sorts.Word before (b ∷ (bs ++ rest)) b (bs ++ rest) (length before + length (b ∷ bs)) refl (sort_word b (bs ++ rest) (word_no_blob b bs rest p.1 e) p.0) (run_there is_word_byte before b bs rest p.1 (word_stops rest e)));
    }

-- ---- numbers

digit_no_blob : (b : ℕ) (bs : List ℕ) → is_ascii_digit b ≡ true → begins_blob (b ∷ bs) ≡ false
digit_no_blob b [] h = refl
digit_no_blob b (c ∷ cs) h = false_and (b == 120 || b == 88) (c == 39) (grind (arith, nat_tests))

digit_no_letter : (b : ℕ) → is_ascii_digit b ≡ true → is_letter b ≡ false
digit_no_letter b h = grind (arith, nat_tests)

digit_no_white : (b : ℕ) → is_ascii_digit b ≡ true → is_white b ≡ false
digit_no_white b h = grind (arith, nat_tests)

sort_number : (b : ℕ) (bs : List ℕ) → is_ascii_digit b ≡ true → sort_at (b ∷ bs) ≡ sorts.Number
sort_number b bs d = cond-false (begins_blob (b ∷ bs)) _ _ (digit_no_blob b bs d) ∙ (cond-false (is_letter b) _ _ (digit_no_letter b d) ∙ cond-true (is_ascii_digit b) _ _ d)

pub number_before : (front rest : List ℕ) (words : List Lexeme) → is_number_text front ≡ true → stops is_ascii_digit rest ≡ true → HasTokens rest words → HasTokens (front ++ rest) (number_lexeme front ∷ words)
number_before [] rest words f e h = absurd cc
number_before (b ∷ bs) rest words f e h =
    let p = and_parts (is_ascii_digit b) (list_all is_ascii_digit bs) f in
    record {
      behind = λ before. token_step sorts.Number before b bs rest words h (digit_no_white b p.0)
          (token_there sorts.Number before (b ∷ (bs ++ rest)) b (bs ++ rest) (length before + length (b ∷ bs)) refl (sort_number b (bs ++ rest) p.0) (run_there is_ascii_digit before b bs rest p.1 e));
    }

-- ---- marks of one byte

-- the byte and the next one are no mark together
abbrev pub unpaired : ℕ → List ℕ → Bool
unpaired b [] = true
unpaired b (c ∷ cs) = not (is_pair b c)

single_no_blob : (b : ℕ) (bs : List ℕ) → is_single b ≡ true → begins_blob (b ∷ bs) ≡ false
single_no_blob b [] h = refl
single_no_blob b (c ∷ cs) h = false_and (b == 120 || b == 88) (c == 39) (grind (arith, nat_tests))

single_no_white : (b : ℕ) → is_single b ≡ true → is_white b ≡ false
single_no_white b h = grind (arith, nat_tests)

sort_single : (b : ℕ) (bs : List ℕ) → is_single b ≡ true → sort_at (b ∷ bs) ≡ sorts.Mark
unfolding is_spelling
sort_single b bs h = sort_front sorts.Mark 1 (b ∷ bs) (omega arith) (and_from _ _ h (not_from_false (begins_blob (b ∷ bs)) (single_no_blob b bs h)))

-- no mark of two bytes stands behind the seam
no_pair : (before : List ℕ) (b : ℕ) (rest : List ℕ) → unpaired b rest ≡ true → length before + 1 < length (before ++ b ∷ rest) →
    is_pair (get_or (before ++ b ∷ rest) (length before) 0) (get_or (before ++ b ∷ rest) (length before + 1) 0) ≡ true → ⊥
no_pair before b [] u l h = omega (arith, longer before b [])
no_pair before b (c ∷ cs) u l h =
    let pair : is_pair b c ≡ true = subst (λ (z : ℕ). is_pair b z ≡ true) (past_seam before b c cs) (subst (λ (z : ℕ). is_pair z (get_or (before ++ b ∷ c ∷ cs) (length before + 1) 0) ≡ true) (at_seam before b (c ∷ cs)) h) in
    both_ways (is_pair b c) (not-true (is_pair b c) u) pair

mark_there : (before : List ℕ) (b : ℕ) (rest : List ℕ) → is_single b ≡ true → unpaired b rest ≡ true →
    EndsAt is_mark_text (before ++ b ∷ rest) (length before + 0) (length (before ++ b ∷ rest)) (length before + 1)
mark_there before b rest s u =
    let some : length before < length (before ++ b ∷ rest) = omega (arith, longer before b rest) in
    let same : length before ≡ length before + 0 = omega arith in
    subst (λ (z : ℕ). EndsAt is_mark_text (before ++ b ∷ rest) z (length (before ++ b ∷ rest)) (length before + 1)) same
    (single_ends (before ++ b ∷ rest) (length before) some (ap (λ (z : ℕ). is_single z) (at_seam before b rest) ∙ s) (no_pair before b rest u))

pub mark_before : (b : ℕ) (rest : List ℕ) (words : List Lexeme) → is_single b ≡ true → unpaired b rest ≡ true → HasTokens rest words → HasTokens (b ∷ rest) (mark_lexeme (b ∷ []) ∷ words)
mark_before b rest words s u h = record {
  behind = λ before. token_step sorts.Mark before b [] rest words h (single_no_white b s)
      (token_there sorts.Mark before (b ∷ rest) b rest (length before + 1) refl (sort_single b rest s) (mark_there before b rest s u));
}

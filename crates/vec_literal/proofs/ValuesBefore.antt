-- What the text of a value in front of some bytes adds to their tokens, and what the literals in it stand for.
use Rattle.std.proofs.Common.{◌≡◌, ℕ, length, inl, inr, ◌<◌, ◌^◌, Bool, true, not, ◌||◌, ◌==◌, List, [], ◌∷◌, ◌++◌, codes, refl, sym, ◌∙◌, ap, subst, arith, append_assoc}
use Rattle.std.specs.Prelude.{FitsSigned, ℤ, pos, negsuc}
use Rattle.std.proofs.lemmas.Bool.{and_parts, cond-false, not-true, cases_lt}
use Rattle.std.proofs.lemmas.Bool.Decides.{nat_tests}
use Rattle.std.proofs.lemmas.Fmt.{IsAscii-signed}
use Rattle.std.proofs.lemmas.Int.{ints}
use Rattle.std.proofs.lemmas.List.{get_or_past}
use Rattle.std.proofs.lemmas.List.Elements.{All-head, All-tail, All-get_or, All-from_get_or}
use Rattle.std.proofs.lemmas.Str.{IsAscii-append, IsUtf8-from_ascii, IsUtf8-from_is_utf8}
use Rattle.std.proofs.lemmas.Str.Ascii.{IsAscii-cons, IsAscii-nil}
use Rattle.std.specs.Char.{is_ascii_digit}
use Rattle.std.specs.Fmt.{signed_decimal}
use Rattle.std.specs.Int.{w8, w64, cast_signed}
use Rattle.std.specs.Int.Signed.{mag}
use Rattle.std.specs.List.{list_all}
use Rattle.std.specs.Option.{unwrap_or}
use Rattle.std.specs.Str.{IsAscii, IsUtf8}
use Rattle.hex.specs.Hex.{IsBytes, encode_upper}
use Rattle.hex.proofs.HexLemmas.{decode_of-encode_upper}
use Rattle.vec_base.specs.declared.value.Value.{Value}
use Rattle.vec_base.specs.declared.value.Value.TheVariants.{Null, Int, Text, Blob, Int8, Bits}
use Rattle.vec_literal.specs.Bits.{SpellsBits}
use Rattle.vec_base.specs.Representable.{AreBytes, IsRepresentable}
use Rattle.vec_literal.specs.Int8.{IsElement}
use Rattle.vec_literal.specs.Lexemes.{Lexeme, word_lexeme, mark_lexeme, text_lexeme, blob_lexeme}
use Rattle.vec_literal.specs.LiteralValues.{text_value, blob_value}
use Rattle.vec_text.specs.ValueTexts.{doubled, quoted, element_text, elements_text, int8_text, blob_text, value_text}
use Rattle.vec_literal.proofs.BitsLaws.{decoded_spelled}
use Rattle.vec_literal.proofs.Enclosed.{pairs_front}
use Rattle.vec_literal.proofs.Following.{HasTokens, word_before, stops, ends_word}
use Rattle.vec_literal.proofs.Int8Laws.{no_quote}
use Rattle.vec_literal.proofs.Int8Written.{bytes_spell, byte_fits}
use Rattle.vec_literal.proofs.LiteralsBefore.{AllBytes, IsSmall, signed_lexemes, signed_before, ends_quote, text_before, blob_before, lone_before, enclosed_quoted}

-- ---- vectors

are_bytes : (bytes : List ℕ) → AllBytes bytes → IsBytes bytes
are_bytes bytes h i = elim (cases_lt i (length bytes)) [
  | inl inside ↦ All-get_or (λ b. b < 2 ^ 8) bytes i 0 inside h
  | inr outside ↦ omega (arith, get_or_past bytes i 0 (omega (arith, outside)))
]

-- the digits of bytes spell them
pub hex_spells : (bytes : List ℕ) → AllBytes bytes → SpellsBits (encode_upper bytes) bytes
hex_spells bytes h = decoded_spelled (encode_upper bytes) bytes (decode_of-encode_upper bytes (are_bytes bytes h))

-- the text of an int8 vector is ASCII, and no byte of it is a quote

signed_ascii : (b : ℕ) → b < 2 ^ 8 → IsAscii (signed_decimal (cast_signed w8 b))
signed_ascii b few = IsAscii-signed (cast_signed w8 b) (small (cast_signed w8 b) (byte_fits b few))
  where
    small : (z : ℤ) → IsElement z → mag z < 2 ^ 63
    small (pos n) h = omega (arith, ints, h.1)
    small (negsuc n) h = omega (arith, ints, h.0)

elements_ascii : (vector : List ℕ) → AllBytes vector → IsAscii (elements_text vector)
elements_ascii [] h = IsAscii-nil
elements_ascii (b ∷ []) h = IsAscii-append (element_text b) [] (signed_ascii b (All-head (λ c. c < 2 ^ 8) b [] h)) IsAscii-nil
elements_ascii (b ∷ c ∷ bs) h =
    IsAscii-append (signed_decimal (cast_signed w8 b)) (44 ∷ elements_text (c ∷ bs)) (signed_ascii b (All-head (λ d. d < 2 ^ 8) b (c ∷ bs) h))
    (IsAscii-cons 44 (elements_text (c ∷ bs)) (omega arith) (elements_ascii (c ∷ bs) (All-tail (λ d. d < 2 ^ 8) b (c ∷ bs) h)))

int8_utf8 : (vector : List ℕ) → AllBytes vector → IsUtf8 (int8_text vector)
int8_utf8 vector h =
    IsUtf8-from_ascii (int8_text vector)
    (IsAscii-cons 91 (elements_text vector ++ 93 ∷ []) (omega arith)
    (IsAscii-append (elements_text vector) (93 ∷ []) (elements_ascii vector h) (IsAscii-cons 93 [] (omega arith) IsAscii-nil)))

doubled_plain : (bytes : List ℕ) → list_all (λ b. not (b == 39)) bytes ≡ true → doubled bytes ≡ bytes
doubled_plain [] h = refl
doubled_plain (b ∷ bs) h =
    let p = and_parts (not (b == 39)) (list_all (λ c. not (c == 39)) bs) h in
    cond-false (b == 39) (39 ∷ 39 ∷ doubled bs) (b ∷ doubled bs) (not-true (b == 39) p.0) ∙ ap (λ (z : List ℕ). b ∷ z) (doubled_plain bs p.1)

pub quoted_int8 : (vector : List ℕ) → AllBytes vector → quoted (int8_text vector) ≡ 39 ∷ (int8_text vector ++ 39 ∷ [])
quoted_int8 vector h = ap (λ (z : List ℕ). 39 ∷ (z ++ 39 ∷ [])) (doubled_plain (int8_text vector) (no_quote (int8_text vector) vector (bytes_spell vector h)))

-- ---- what literals stand for

pub text_back : (text : List ℕ) → text_value (quoted text) ≡ text
text_back text = ap (λ o. unwrap_or o []) (enclosed_quoted text)

pub blob_back : (bytes : List ℕ) → AllBytes bytes → blob_value (blob_text bytes) ≡ bytes
blob_back bytes h = pairs_front (encode_upper bytes) bytes (hex_spells bytes h)

-- ---- values

-- what is known of held values, in the words of the lemmas

pub all_bytes : (bytes : List ℕ) → AreBytes bytes → AllBytes bytes
all_bytes bytes h = All-from_get_or (λ b. b < 2 ^ 8) bytes 0 (λ i inside. let few = h i in omega arith)

pub small_number : (z : ℤ) → FitsSigned w64 z → IsSmall z
small_number z h = (omega (arith, ints, h), omega (arith, ints, h))

-- the word of a vector, and its literal in parentheses
abbrev pub vector_lexemes : List ℕ → Lexeme → List Lexeme
vector_lexemes word literal = word_lexeme word ∷ mark_lexeme (codes "(") ∷ literal ∷ mark_lexeme (codes ")") ∷ []

abbrev pub value_lexemes : Value → List Lexeme
value_lexemes Null = word_lexeme (codes "NULL") ∷ []
value_lexemes (Int n) = signed_lexemes n
value_lexemes (Text text) = text_lexeme (quoted text) ∷ []
value_lexemes (Blob bytes) = blob_lexeme (blob_text bytes) ∷ []
value_lexemes (Int8 vector) = vector_lexemes (codes "vec_int8") (text_lexeme (quoted (int8_text vector)))
value_lexemes (Bits bytes) = vector_lexemes (codes "vec_bit") (blob_lexeme (blob_text bytes))

-- nothing follows, or a space, a comma or a closing parenthesis
abbrev pub ends_value : List ℕ → Bool
ends_value [] = true
ends_value (b ∷ bs) = b == 32 || b == 44 || b == 41

pub ended_word : (rest : List ℕ) → ends_value rest ≡ true → ends_word rest ≡ true
ended_word [] h = refl
ended_word (b ∷ bs) h = grind (arith, nat_tests)

pub ended_number : (rest : List ℕ) → ends_value rest ≡ true → stops is_ascii_digit rest ≡ true
ended_number [] h = refl
ended_number (b ∷ bs) h = grind (arith, nat_tests)

ended_quote : (rest : List ℕ) → ends_value rest ≡ true → ends_quote rest ≡ true
ended_quote [] h = refl
ended_quote (b ∷ bs) h = grind (arith, nat_tests)

int8_before : (vector rest : List ℕ) (words : List Lexeme) → AllBytes vector → HasTokens rest words → HasTokens (value_text (Int8 vector) ++ rest) (value_lexemes (Int8 vector) ++ words)
int8_before vector rest words b h =
    let literal : List ℕ = int8_text vector ++ 39 ∷ [] in
    let closed : HasTokens (41 ∷ rest) (mark_lexeme (codes ")") ∷ words) = lone_before 41 rest words refl h in
    let text : HasTokens (quoted (int8_text vector) ++ 41 ∷ rest) (text_lexeme (quoted (int8_text vector)) ∷ mark_lexeme (codes ")") ∷ words) =
    text_before (int8_text vector) (41 ∷ rest) (mark_lexeme (codes ")") ∷ words) (int8_utf8 vector b) refl closed in
    let told : HasTokens (39 ∷ (literal ++ 41 ∷ rest)) (text_lexeme (quoted (int8_text vector)) ∷ mark_lexeme (codes ")") ∷ words) =
    subst (λ (z : List ℕ). HasTokens (z ++ 41 ∷ rest) (text_lexeme (quoted (int8_text vector)) ∷ mark_lexeme (codes ")") ∷ words)) (quoted_int8 vector b) text in
    let seam : (literal ++ 41 ∷ rest) ≡ ((int8_text vector ++ 39 ∷ 41 ∷ []) ++ rest) =
    append_assoc (int8_text vector) (39 ∷ []) (41 ∷ rest) ∙ sym (append_assoc (int8_text vector) (39 ∷ 41 ∷ []) rest) in
    word_before (codes "vec_int8") (40 ∷ 39 ∷ ((int8_text vector ++ 39 ∷ 41 ∷ []) ++ rest)) (mark_lexeme (codes "(") ∷ text_lexeme (quoted (int8_text vector)) ∷ mark_lexeme (codes ")") ∷ words) refl refl
    (lone_before 40 (39 ∷ ((int8_text vector ++ 39 ∷ 41 ∷ []) ++ rest)) (text_lexeme (quoted (int8_text vector)) ∷ mark_lexeme (codes ")") ∷ words) refl
    (subst (λ (z : List ℕ). HasTokens (39 ∷ z) (text_lexeme (quoted (int8_text vector)) ∷ mark_lexeme (codes ")") ∷ words)) seam told))

bits_before : (bytes rest : List ℕ) (words : List Lexeme) → AllBytes bytes → HasTokens rest words → HasTokens (value_text (Bits bytes) ++ rest) (value_lexemes (Bits bytes) ++ words)
bits_before bytes rest words b h =
    let closed : HasTokens (41 ∷ rest) (mark_lexeme (codes ")") ∷ words) = lone_before 41 rest words refl h in
    let told : HasTokens (88 ∷ 39 ∷ ((encode_upper bytes ++ 39 ∷ []) ++ 41 ∷ rest)) (blob_lexeme (blob_text bytes) ∷ mark_lexeme (codes ")") ∷ words) =
    blob_before bytes (41 ∷ rest) (mark_lexeme (codes ")") ∷ words) b closed in
    let seam : ((encode_upper bytes ++ 39 ∷ []) ++ 41 ∷ rest) ≡ ((encode_upper bytes ++ 39 ∷ 41 ∷ []) ++ rest) =
    append_assoc (encode_upper bytes) (39 ∷ []) (41 ∷ rest) ∙ sym (append_assoc (encode_upper bytes) (39 ∷ 41 ∷ []) rest) in
    word_before (codes "vec_bit") (40 ∷ 88 ∷ 39 ∷ ((encode_upper bytes ++ 39 ∷ 41 ∷ []) ++ rest)) (mark_lexeme (codes "(") ∷ blob_lexeme (blob_text bytes) ∷ mark_lexeme (codes ")") ∷ words) refl refl
    (lone_before 40 (88 ∷ 39 ∷ ((encode_upper bytes ++ 39 ∷ 41 ∷ []) ++ rest)) (blob_lexeme (blob_text bytes) ∷ mark_lexeme (codes ")") ∷ words) refl
    (subst (λ (z : List ℕ). HasTokens (88 ∷ 39 ∷ z) (blob_lexeme (blob_text bytes) ∷ mark_lexeme (codes ")") ∷ words)) seam told))

pub value_before : (v : Value) (rest : List ℕ) (words : List Lexeme) → IsRepresentable v → ends_value rest ≡ true → HasTokens rest words → HasTokens (value_text v ++ rest) (value_lexemes v ++ words)
value_before Null rest words v e h = word_before (codes "NULL") rest words refl (ended_word rest e) h
value_before (Int n) rest words v e h = signed_before n rest words (small_number n v) (ended_number rest e) h
value_before (Text text) rest words v e h = text_before text rest words (IsUtf8-from_is_utf8 text v) (ended_quote rest e) h
value_before (Blob bytes) rest words v e h = blob_before bytes rest words (all_bytes bytes v) h
value_before (Int8 vector) rest words v e h = int8_before vector rest words (all_bytes vector v) h
value_before (Bits bytes) rest words v e h = bits_before bytes rest words (all_bytes bytes v) h

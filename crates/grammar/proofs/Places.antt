-- One token at hand.
use Rattle.std.proofs.Common.{◌≡◌, ℕ, zero, suc, ◌<◌, ◌≤◌, ◌^◌, ◌-◌, nat_le, get_or, Bool, true, false, not, ◌||◌, ◌&&◌, cond, inl, inr, List, [], ◌∷◌, length, drop, Option, Some, None, Ok, Err, IsTrue, ◌↔◌, refl, sym, ◌∙◌, ap, subst, arith}
use Rattle.std.proofs.lemmas.Bool.{and_parts, and_from, and_left, and_right, false_from_ne_true, cond-true, cond-false}
use Rattle.std.proofs.lemmas.Bool.{le-leb, lt-leb, ne_eqb, cases_lt, eqb-true}
use Rattle.std.proofs.lemmas.Bool.Decides.{nat_tests}
use Rattle.std.proofs.lemmas.Str.{IsUtf8-nil, IsUtf8-from_ascii}
use Rattle.std.specs.Str.{IsUtf8}
use Rattle.std.specs.Str.Parse.{IsNumeral, AllDigits, digits_value, without_leading_plus}
use Rattle.std.specs.Char.{is_ascii_digit, digit_value, to_ascii_lowercase}
use Rattle.std.specs.List.{list_all}
use Rattle.std.proofs.lemmas.Slice.Eq.{bytes_eq-Decides}
use Rattle.grammar.specs.Grammar.{is_sort, lower, number_of, Class, keyword, sign, name, number, number_after_minus, text_literal, blob_literal, parameter, one, means, fits, lowered}
use Rattle.vec_base.specs.Words.{is_reserved, is_small_letter, is_name_byte, is_small_word, is_name}
use Rattle.grammar.specs.inner.Reading.{Outcome, ◌>>=◌, next_in, read_one, read}
use Rattle.vec_literal.specs.Tokens.{Token, bad_at, is_number_text, is_word_text, is_letter, is_word_byte, is_right, is_spelling, is_text_literal, is_blob_literal, is_param_text, after}
use Rattle.vec_literal.specs.declared.token.TokenSort.{TokenSort}
use Rattle.vec_literal.specs.declared.token.TokenSort.TheVariants as sorts
use Rattle.vec_literal.specs.declared.token.Lexed.{Lexed}
use Rattle.vec_literal.specs.declared.token.Lexed.TheVariants as lexed
use Rattle.std.specs.Prelude.{MatchOption, slice_range, codes}
use Rattle.grammar.specs.Grammar.{is_in_any_case}
use Rattle.grammar.specs.inner.ReaderResults.{first_of, AtNumber, is_number_up_to, is_well_spelled, is_well_spelled_parameter}

pub bad_fits : (c : Class) (p : ℕ) → fits c (bad_at p) ≡ false
unfolding fits
bad_fits (keyword w) p = refl
bad_fits name p = refl
bad_fits number p = refl
bad_fits (sign m) p = refl
bad_fits number_after_minus p = refl
bad_fits text_literal p = refl
bad_fits blob_literal p = refl
bad_fits parameter p = refl

or_false : (b : Bool) → (b || false) ≡ b
or_false true = refl
or_false false = refl

pub next_first : (c : Class) (ts : List Token) → next_in (c ∷ []) ts ≡ fits c (first_of ts)
next_first c [] = sym (bad_fits c 0)
next_first c (t ∷ ts) = or_false (fits c t)

pub one_fits : (c : Class) (ts : List Token) → next_in (c ∷ []) ts ≡ true → read_one c ts ≡ Ok (first_of ts, drop 1 ts)
one_fits c [] h = absurd cc
one_fits c (t ∷ ts) h = cond-true (fits c t) _ _ (sym (or_false (fits c t)) ∙ h)

pub one_fails : (c : Class) (ts : List Token) → next_in (c ∷ []) ts ≡ false → read_one c ts ≡ Err ts
one_fails c [] h = refl
one_fails c (t ∷ ts) h = cond-false (fits c t) _ _ (sym (or_false (fits c t)) ∙ h)

-- a place for one token, with what the token means

pub means_fits : {A : Type 0} (f : Token → A) (c : Class) (ts : List Token) → next_in (c ∷ []) ts ≡ true → read (means f (one c)) ts ≡ Ok (f (first_of ts), drop 1 ts)
means_fits {A} f c ts h = ap (λ (r : Outcome Token). (let k : Outcome A = r >>= λ x. Ok (f x.0, x.1) in k)) (one_fits c ts h)

pub means_fails : {A : Type 0} (f : Token → A) (c : Class) (ts : List Token) → next_in (c ∷ []) ts ≡ false → read (means f (one c)) ts ≡ Err ts
means_fails {A} f c ts h = ap (λ (r : Outcome Token). (let k : Outcome A = r >>= λ x. Ok (f x.0, x.1) in k)) (one_fails c ts h)

-- what the tests of the reader say

pub word_at : (ts : List Token) (w : List ℕ) (b : Bool) → (IsTrue b ↔ (lowered (first_of ts).spelling ≡ lowered w)) → is_sort sorts.Word (first_of ts).sort ≡ true → b ≡ next_in (keyword w ∷ []) ts
unfolding fits
word_at ts w true h k = sym (next_first (keyword w) ts ∙ and_from _ _ k ((bytes_eq-Decides _ _).1 (h.0 refl)))
word_at ts w false h k = sym (next_first (keyword w) ts ∙ and_right _ _ (false_from_ne_true _ (λ e. absurd (let no : IsTrue false = h.1 ((bytes_eq-Decides _ _).0 e) in cc))))

pub word_not_at : (ts : List Token) (w : List ℕ) → is_sort sorts.Word (first_of ts).sort ≡ false → false ≡ next_in (keyword w ∷ []) ts
unfolding fits
word_not_at ts w k = sym (next_first (keyword w) ts ∙ and_left _ _ k)

pub mark_at : (ts : List Token) (m : List ℕ) (b : Bool) → (IsTrue b ↔ ((first_of ts).spelling ≡ m)) → is_sort sorts.Mark (first_of ts).sort ≡ true → b ≡ next_in (sign m ∷ []) ts
unfolding fits
mark_at ts m true h k = sym (next_first (sign m) ts ∙ and_from _ _ k ((bytes_eq-Decides _ _).1 (h.0 refl)))
mark_at ts m false h k = sym (next_first (sign m) ts ∙ and_right _ _ (false_from_ne_true _ (λ e. absurd (let no : IsTrue false = h.1 ((bytes_eq-Decides _ _).0 e) in cc))))

pub mark_not_at : (ts : List Token) (m : List ℕ) → is_sort sorts.Mark (first_of ts).sort ≡ false → false ≡ next_in (sign m ∷ []) ts
unfolding fits
mark_not_at ts m k = sym (next_first (sign m) ts ∙ and_left _ _ k)

fits_name : (a b c d : Bool) → a ≡ true → b ≡ true → c ≡ d → (a && b && c) ≡ d
fits_name a b c d h k e = grind arith

pub name_at : (ts : List Token) (r : Bool) → is_sort sorts.Word (first_of ts).sort ≡ true → length (first_of ts).spelling ≤ 64 → r ≡ is_reserved (lowered (first_of ts).spelling) → not r ≡ next_in (name ∷ []) ts
unfolding fits
name_at ts r k l e = sym (next_first name ts ∙ fits_name (is_sort sorts.Word (first_of ts).sort) (nat_le (length (first_of ts).spelling) 64) (not (is_reserved (lowered (first_of ts).spelling))) (not r) k (le-leb _ 64 l) (ap not (sym e)))

pub name_not_word : (ts : List Token) → is_sort sorts.Word (first_of ts).sort ≡ false → next_in (name ∷ []) ts ≡ false
unfolding fits
name_not_word ts k = next_first name ts ∙ and_left _ _ (and_left _ _ k)

pub name_is_word : (ts : List Token) → next_in (name ∷ []) ts ≡ true → is_sort sorts.Word (first_of ts).sort ≡ true
unfolding fits
name_is_word ts h = (and_parts _ _ (and_parts _ _ (sym (next_first name ts) ∙ h)).0).0

pub name_too_long : (ts : List Token) → 64 < length (first_of ts).spelling → next_in (name ∷ []) ts ≡ false
unfolding fits
name_too_long ts l = next_first name ts ∙ and_left _ _ (and_right _ _ (lt-leb _ _ l))

up_to_fits : (greatest : ℕ) (t : Token) (n : ℕ) → is_sort sorts.Number t.sort ≡ true → n ≡ number_of t → n ≤ greatest → is_number_up_to greatest t ≡ true
up_to_fits greatest t n k e l = and_from _ _ k (let less : number_of t ≤ greatest = omega (arith, e, l) in le-leb (number_of t) greatest less)

pub number_not : (greatest : ℕ) (t : Token) → is_sort sorts.Number t.sort ≡ false → is_number_up_to greatest t ≡ false
number_not greatest t k = and_left _ _ k

number_large : (greatest : ℕ) (t : Token) → greatest < number_of t → is_number_up_to greatest t ≡ false
number_large greatest t l = and_right _ _ (lt-leb (number_of t) greatest l)

-- the classes of numbers
pub number_next : (ts : List Token) → next_in (number ∷ []) ts ≡ is_number_up_to (2 ^ 63 - 1) (first_of ts)
unfolding fits
number_next ts = next_first number ts

pub after_minus_next : (ts : List Token) → next_in (number_after_minus ∷ []) ts ≡ is_number_up_to (2 ^ 63) (first_of ts)
unfolding fits
after_minus_next ts = next_first number_after_minus ts

pub text_at : (ts : List Token) → is_sort sorts.TextLit (first_of ts).sort ≡ next_in (text_literal ∷ []) ts
unfolding fits
text_at ts = sym (next_first text_literal ts)

pub blob_at : (ts : List Token) → is_sort sorts.BlobLit (first_of ts).sort ≡ next_in (blob_literal ∷ []) ts
unfolding fits
blob_at ts = sym (next_first blob_literal ts)

-- the first of several places, or the others
pub next_more : (c d : Class) (cs : List Class) (ts : List Token) → next_in (c ∷ d ∷ cs) ts ≡ (next_in (c ∷ []) ts || next_in (d ∷ cs) ts)
next_more c d cs [] = refl
next_more c d cs (t ∷ ts) = grind arith

pub same_words : (a b : List ℕ) (x : Bool) → (IsTrue x ↔ (lowered a ≡ lowered b)) → x ≡ is_in_any_case a b
same_words a b true h = sym ((bytes_eq-Decides _ _).1 (h.0 refl))
same_words a b false h = sym (false_from_ne_true _ (λ e. absurd (let no : IsTrue false = h.1 ((bytes_eq-Decides _ _).0 e) in cc)))

-- digits are read by `parse`

digit_ascii : (b : ℕ) → is_ascii_digit b ≡ true → b < 128
digit_ascii b h = grind (arith, nat_tests)

digit_low : (b : ℕ) → is_ascii_digit b ≡ true → 48 ≤ b
digit_low b h = grind (arith, nat_tests)

digit_ten : (b : ℕ) → is_ascii_digit b ≡ true → digit_value b < 10
digit_ten b h = grind (arith, nat_tests)

digits_all : (ds : List ℕ) → list_all is_ascii_digit ds ≡ true → AllDigits 10 ds
digits_all [] h = tt
digits_all (d ∷ ds) h = (digit_ten d (and_parts _ _ h).0, digits_all ds (and_parts _ _ h).1)

digits_ascii : (ds : List ℕ) → list_all is_ascii_digit ds ≡ true → (i : ℕ) → get_or ds i 0 < 128
digits_ascii [] h i = omega arith
digits_ascii (d ∷ ds) h zero = digit_ascii d (and_parts _ _ h).0
digits_ascii (d ∷ ds) h (suc i) = digits_ascii ds (and_parts _ _ h).1 i

pub number_numeral : (ds : List ℕ) → is_number_text ds ≡ true → IsNumeral 10 ds
number_numeral [] h = absurd cc
number_numeral (d ∷ ds) h = (omega arith, (digit_ten d (and_parts _ _ h).0, digits_all ds (and_parts _ _ h).1))

pub number_utf8 : (ds : List ℕ) → is_number_text ds ≡ true → IsUtf8 ds
number_utf8 [] h = IsUtf8-nil
number_utf8 (d ∷ ds) h = IsUtf8-from_ascii (d ∷ ds) (digits_ascii (d ∷ ds) h)

-- a number begins with no plus
pub number_plus : (ds : List ℕ) → is_number_text ds ≡ true → without_leading_plus ds ≡ ds
number_plus [] h = absurd cc
number_plus (d ∷ ds) h = ap (λ (b : Bool). drop (cond b 1 0) (d ∷ ds)) (ne_eqb d 43 (let low : 48 ≤ d = digit_low d (and_parts _ _ h).0 in (λ e. omega arith)))

pub parse_fails : (greatest : ℕ) (ds bs : List ℕ) → greatest < 2 ^ 64 → bs ≡ ds → is_number_text ds ≡ true → (IsNumeral 10 (without_leading_plus bs) × (digits_value 10 (without_leading_plus bs) < 2 ^ 64) → ⊥) → greatest < digits_value 10 ds
parse_fails greatest ds bs small e h fails =
    let plain : without_leading_plus bs ≡ ds = ap (λ (z : List ℕ). without_leading_plus z) e ∙ number_plus ds h in
    let none : IsNumeral 10 ds × (digits_value 10 ds < 2 ^ 64) → ⊥ = subst (λ (z : List ℕ). IsNumeral 10 z × (digits_value 10 z < 2 ^ 64) → ⊥) plain fails in
    elim (cases_lt (digits_value 10 ds) (2 ^ 64)) [
      | inl l ↦ absurd (none (number_numeral ds h, l))
      | inr l ↦ omega (arith, small, l)
    ]

pub number_result : (greatest : ℕ) (ts : List Token) (ds : List ℕ) (r : Option ℕ) → is_sort sorts.Number (first_of ts).sort ≡ true → ds ≡ (first_of ts).spelling → MatchOption r (greatest < digits_value 10 ds) (λ n. (n ≡ digits_value 10 ds) × (n ≤ greatest)) → AtNumber greatest r ts
number_result greatest ts ds None k a h = number_large greatest (first_of ts) (subst (λ (z : List ℕ). greatest < digits_value 10 z) a h)
number_result greatest ts ds (Some n) k a h =
    let e : n ≡ number_of (first_of ts) = h.0 ∙ ap (λ (z : List ℕ). digits_value 10 z) a in
    (up_to_fits greatest (first_of ts) n k e h.1, e, h.1)

told_found : (text : List ℕ) (sort : TokenSort) (from upto : ℕ) → is_spelling sort (slice_range text from upto) ≡ true → is_well_spelled (record { sort = Some sort; spelling = slice_range text from upto; place = from }) ≡ true
unfolding is_spelling
told_found text sorts.Word from upto h = and_from _ _ (and_from _ _ h refl) refl
told_found text sorts.Number from upto h = and_from _ _ (and_from _ _ (and_from _ _ h refl) refl) refl
told_found text sorts.TextLit from upto h = and_from _ _ h refl
told_found text sorts.BlobLit from upto h = h
told_found text sorts.Param from upto h = refl
told_found text sorts.Mark from upto h = refl

pub right_spelled : (text : List ℕ) (a : Lexed) → is_right text a ≡ true → is_well_spelled (first_of (after text a)) ≡ true
right_spelled text (lexed.Found t) h = told_found text t.sort t.from t.upto (and_parts _ _ h).1
right_spelled text lexed.End h = refl
right_spelled text (lexed.Bad p) h = refl

param_found : (text : List ℕ) (sort : TokenSort) (from upto : ℕ) → is_spelling sort (slice_range text from upto) ≡ true → is_well_spelled_parameter (record { sort = Some sort; spelling = slice_range text from upto; place = from }) ≡ true
unfolding is_spelling
param_found text sorts.Word from upto h = refl
param_found text sorts.Number from upto h = refl
param_found text sorts.TextLit from upto h = refl
param_found text sorts.BlobLit from upto h = refl
param_found text sorts.Param from upto h = h
param_found text sorts.Mark from upto h = refl

pub right_parameter_spelled : (text : List ℕ) (a : Lexed) → is_right text a ≡ true → is_well_spelled_parameter (first_of (after text a)) ≡ true
right_parameter_spelled text (lexed.Found t) h = param_found text t.sort t.from t.upto (and_parts _ _ h).1
right_parameter_spelled text lexed.End h = refl
right_parameter_spelled text (lexed.Bad p) h = refl

record ToldParts (t : Token) : Type 0 where
  number : (not (is_sort sorts.Number t.sort) || is_number_text t.spelling) ≡ true
  word : (not (is_sort sorts.Word t.sort) || is_word_text t.spelling) ≡ true
  text : (not (is_sort sorts.TextLit t.sort) || is_text_literal t.spelling) ≡ true
  blob : (not (is_sort sorts.BlobLit t.sort) || is_blob_literal t.spelling) ≡ true

told_parts : (t : Token) → is_well_spelled t ≡ true → ToldParts t
told_parts t h =
    let three = and_parts _ _ h in
    let two = and_parts _ _ three.0 in
    let one = and_parts _ _ two.0 in
    record { number = one.0; word = one.1; text = two.1; blob = three.1 }

pub implied : (a b : Bool) → (not a || b) ≡ true → a ≡ true → b ≡ true
implied a b h k = grind arith

pub told_number : (t : Token) (ds : List ℕ) → is_well_spelled t ≡ true → is_sort sorts.Number t.sort ≡ true → ds ≡ t.spelling → is_number_text ds ≡ true
told_number t ds h k e = subst (λ (z : List ℕ). is_number_text z ≡ true) (sym e) (implied (is_sort sorts.Number t.sort) (is_number_text t.spelling) (told_parts t h).number k)

word_byte_ascii : (b : ℕ) → is_word_byte b ≡ true → b < 128
word_byte_ascii b h = grind (arith, nat_tests)

letter_ascii : (b : ℕ) → is_letter b ≡ true → b < 128
letter_ascii b h = grind (arith, nat_tests)

word_bytes_ascii : (bs : List ℕ) → list_all is_word_byte bs ≡ true → (i : ℕ) → get_or bs i 0 < 128
word_bytes_ascii [] h i = omega arith
word_bytes_ascii (b ∷ bs) h zero = word_byte_ascii b (and_parts _ _ h).0
word_bytes_ascii (b ∷ bs) h (suc i) = word_bytes_ascii bs (and_parts _ _ h).1 i

word_ascii : (bs : List ℕ) → is_word_text bs ≡ true → (i : ℕ) → get_or bs i 0 < 128
word_ascii [] h i = absurd cc
word_ascii (b ∷ bs) h zero = letter_ascii b (and_parts _ _ h).0
word_ascii (b ∷ bs) h (suc i) = word_bytes_ascii bs (and_parts _ _ h).1 i

-- a word is UTF-8
pub told_word : (t : Token) (bs : List ℕ) → is_well_spelled t ≡ true → is_sort sorts.Word t.sort ≡ true → bs ≡ t.spelling → IsUtf8 bs
told_word t bs h k e = subst (λ (z : List ℕ). IsUtf8 z) (sym e) (IsUtf8-from_ascii t.spelling (word_ascii t.spelling (implied (is_sort sorts.Word t.sort) (is_word_text t.spelling) (told_parts t h).word k)))

-- a name in lower case

small_letter : (b : ℕ) → is_letter b ≡ true → is_small_letter (to_ascii_lowercase b) ≡ true
small_letter b h = grind (arith, nat_tests)

name_byte : (b : ℕ) → is_word_byte b ≡ true → is_name_byte (to_ascii_lowercase b) ≡ true
name_byte b h = grind (arith, nat_tests)

name_bytes : (bs : List ℕ) → list_all is_word_byte bs ≡ true → list_all is_name_byte (lowered bs) ≡ true
name_bytes [] h = refl
name_bytes (b ∷ bs) h = and_from _ _ (name_byte b (and_parts _ _ h).0) (name_bytes bs (and_parts _ _ h).1)

small_word : (bs : List ℕ) → is_word_text bs ≡ true → is_small_word (lowered bs) ≡ true
small_word [] h = absurd cc
small_word (b ∷ bs) h = and_from _ _ (small_letter b (and_parts _ _ h).0) (name_bytes bs (and_parts _ _ h).1)

three_parts : (a b c : Bool) → a ≡ true → b ≡ true → c ≡ true → (a && b && c) ≡ true
three_parts a b c h k l = grind arith

lowered_length : (bs : List ℕ) → length (lowered bs) ≡ length bs
lowered_length [] = refl
lowered_length (b ∷ bs) = ap suc (lowered_length bs)

pub name_told : (ts : List Token) → is_well_spelled (first_of ts) ≡ true → next_in (name ∷ []) ts ≡ true → is_name (lower (first_of ts)) ≡ true
unfolding fits
name_told ts h k =
    let f = and_parts _ _ (sym (next_first name ts) ∙ k) in
    let g = and_parts _ _ f.0 in
    three_parts (is_small_word (lower (first_of ts))) (nat_le (length (lower (first_of ts))) 64) (not (is_reserved (lower (first_of ts))))
    (small_word (first_of ts).spelling (implied (is_sort sorts.Word (first_of ts).sort) (is_word_text (first_of ts).spelling) (told_parts (first_of ts) h).word g.0))
    (ap (λ (n : ℕ). nat_le n 64) (lowered_length (first_of ts).spelling) ∙ g.1) f.1

pub name_kept : (ts : List Token) (t : List ℕ) → t ≡ lower (first_of ts) → is_well_spelled (first_of ts) ≡ true → next_in (name ∷ []) ts ≡ true → is_name t ≡ true
name_kept ts t e h k = ap (λ (z : List ℕ). is_name z) e ∙ name_told ts h k

-- literals and parameters

pub told_text : (t : Token) → is_well_spelled t ≡ true → is_sort sorts.TextLit t.sort ≡ true → is_text_literal t.spelling ≡ true
told_text t h k = implied (is_sort sorts.TextLit t.sort) (is_text_literal t.spelling) (told_parts t h).text k

pub told_blob : (t : Token) → is_well_spelled t ≡ true → is_sort sorts.BlobLit t.sort ≡ true → is_blob_literal t.spelling ≡ true
told_blob t h k = implied (is_sort sorts.BlobLit t.sort) (is_blob_literal t.spelling) (told_parts t h).blob k

pub param_nonempty : (bytes : List ℕ) → is_param_text bytes ≡ true → 1 ≤ length bytes
param_nonempty [] h = absurd cc
param_nonempty (b ∷ bytes) h = omega arith

pub param_digits : (bytes digits : List ℕ) → is_param_text bytes ≡ true → digits ≡ drop 1 bytes → (length digits ≡ 0 → ⊥) → is_number_text digits ≡ true
param_digits [] digits h e some = absurd cc
param_digits (b ∷ bytes) [] h e some = absurd (some refl)
param_digits (b ∷ bytes) (d ∷ digits) h e some = ap (λ (z : List ℕ). list_all is_ascii_digit z) e ∙ (and_parts _ _ h).1

pub param_bare : (bytes : List ℕ) → is_param_text bytes ≡ true → length (drop 1 bytes) ≡ 0 → bytes ≡ codes "?"
param_bare [] h e = absurd cc
param_bare (b ∷ []) h e = ap (λ (z : ℕ). z ∷ []) (eqb-true b 63 (and_parts _ _ h).0)
param_bare (b ∷ c ∷ bytes) h e = absurd (omega (arith, e))

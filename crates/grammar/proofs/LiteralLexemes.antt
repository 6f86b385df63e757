-- What the lexemes of literals and of signed numbers spell, and that tokens without a parameter keep their spellings.
use Rattle.std.proofs.Common.{◌≡◌, ℕ, suc, ◌^◌, ◌≤◌, true, false, not, List, [], ◌∷◌, codes, Option, Some, None, map, refl, sym, ◌∙◌, ap, subst, arith}
use Rattle.std.specs.Prelude.{ℤ, pos, negsuc, ◌-ℤ◌, nat_le, bytes_eq, ⊤}
use Rattle.std.specs.Fmt.{decimal}
use Rattle.std.specs.Str.Parse.{digits_value}
use Rattle.std.proofs.lemmas.Bool.{and_parts, le-leb, not-true}
use Rattle.std.proofs.lemmas.Fmt.{decimal_is_IsNumeral}
use Rattle.std.proofs.lemmas.Int.{ints}
use Rattle.vec_literal.specs.declared.token.TokenSort.{TokenSort}
use Rattle.vec_literal.specs.declared.token.TokenSort.TheVariants as sorts
use Rattle.vec_literal.specs.Lexemes.{Lexeme, lexeme_of, number_lexeme, mark_lexeme, text_lexeme, blob_lexeme}
use Rattle.vec_literal.specs.Tokens.{Token}
use Rattle.vec_literal.specs.LiteralValues.{text_value, blob_value}
use Rattle.vec_text.specs.ValueTexts.{quoted, blob_text}
use Rattle.vec_literal.proofs.Adding.{is_parameter, has_no_parameter}
use Rattle.vec_literal.proofs.LiteralsBefore.{AllBytes, IsSmall, signed_lexemes}
use Rattle.vec_literal.proofs.ValuesBefore.{text_back, blob_back}
use Rattle.grammar.specs.Grammar.{is_sort, number_after_minus, text_literal, blob_literal, sign, number_of, text_of, fits, means, a_mark, a_number, a_number_after_minus, a_signed_number, a_text, a_placed_text, a_blob, a_placed_mark}
use Rattle.grammar.specs.Parameters.{numbered, greatest_after}
use Rattle.grammar.proofs.Lexemes.{LexemesSpell, of_token, of_means, of_second, of_left, of_right, of_mark, of_number}
use Rattle.grammar.proofs.LexemesGive.{LexemesGive, give_token, give_means}
use Rattle.grammar.proofs.Numbering.{not_plain, unnumbered, no_parameter_after}

-- ---- literals

pub of_text : (text : List ℕ) → LexemesSpell a_text (text_lexeme (quoted text) ∷ []) text
unfolding fits
of_text text = of_token text_literal text_of (text_lexeme (quoted text)) text (λ t e. (
  ap (λ (l : Lexeme). is_sort sorts.TextLit l.sort) e,
  sym (text_back text) ∙ ap (λ (l : Lexeme). text_value l.spelling) (sym e),
))

pub of_blob : (bytes : List ℕ) → AllBytes bytes → LexemesSpell a_blob (blob_lexeme (blob_text bytes) ∷ []) bytes
unfolding fits
of_blob bytes h = of_token blob_literal (λ t. blob_value t.spelling) (blob_lexeme (blob_text bytes)) bytes (λ t e. (
  ap (λ (l : Lexeme). is_sort sorts.BlobLit l.sort) e,
  sym (blob_back bytes h) ∙ ap (λ (l : Lexeme). blob_value l.spelling) (sym e),
))

-- a text literal with its place, whatever that is
pub give_placed_text : (text : List ℕ) → LexemesGive a_placed_text (text_lexeme (quoted text) ∷ []) (λ x. x.1 ≡ text)
unfolding fits
give_placed_text text =
    give_means (λ t. (t.place, text_of t)) (λ x. x.1 ≡ text) (λ t h. h)
    (give_token text_literal (text_lexeme (quoted text)) (λ t. text_of t ≡ text) (λ t e. (
      ap (λ (l : Lexeme). is_sort sorts.TextLit l.sort) e,
      ap (λ (l : Lexeme). text_value l.spelling) e ∙ text_back text,
    )))

pub give_placed_mark : (mark : List ℕ) → bytes_eq mark mark ≡ true → LexemesGive (a_placed_mark mark) (mark_lexeme mark ∷ []) (λ place. ⊤)
unfolding fits
give_placed_mark mark h =
    give_means (λ t. t.place) (λ place. ⊤) (λ t k. tt)
    (give_token (sign mark) (mark_lexeme mark) (λ t. ⊤)
    (λ t e. (subst (λ (l : Lexeme). fits (sign mark) (record { sort = l.sort; spelling = l.spelling; place = t.place }) ≡ true) (sym e) h, tt)))

-- ---- signed numbers

of_number_after_minus : (n : ℕ) → n ≤ 2 ^ 63 → LexemesSpell a_number_after_minus (number_lexeme (decimal n) ∷ []) n
unfolding fits
of_number_after_minus n few =
    let value : digits_value 10 (decimal n) ≡ n = (decimal_is_IsNumeral n (omega arith)).1 in
    let small : nat_le (digits_value 10 (decimal n)) (2 ^ 63) ≡ true = ap (λ (k : ℕ). nat_le k (2 ^ 63)) value ∙ le-leb n (2 ^ 63) few in
    of_token number_after_minus number_of (number_lexeme (decimal n)) n (λ t e. (
      subst (λ (l : Lexeme). fits number_after_minus (record { sort = l.sort; spelling = l.spelling; place = t.place }) ≡ true) (sym e) small,
      sym value ∙ ap (λ (l : Lexeme). digits_value 10 l.spelling) (sym e),
    ))

pub of_signed_number : (z : ℤ) → IsSmall z → LexemesSpell a_signed_number (signed_lexemes z) z
unfolding a_signed_number
of_signed_number (pos n) few = of_right (of_right (of_means (λ k. pos k) a_number (number_lexeme (decimal n) ∷ []) n (of_number n (omega (arith, ints, few.1)))))
of_signed_number (negsuc n) few =
    let negated : pos 0 -ℤ pos (suc n) ≡ negsuc n = omega (arith, ints) in
    let number : LexemesSpell (means (λ k. pos 0 -ℤ pos k) a_number_after_minus) (number_lexeme (decimal (suc n)) ∷ []) (pos 0 -ℤ pos (suc n)) =
    of_means (λ k. pos 0 -ℤ pos k) a_number_after_minus (number_lexeme (decimal (suc n)) ∷ []) (suc n) (of_number_after_minus (suc n) (omega (arith, ints, few.0))) in
    of_right (of_left (of_second (a_mark (codes "-")) (means (λ k. pos 0 -ℤ pos k) a_number_after_minus) (mark_lexeme (codes "-") ∷ []) (number_lexeme (decimal (suc n)) ∷ []) tt (negsuc n) (of_mark (codes "-") refl)
    (subst (λ (z : ℤ). LexemesSpell (means (λ k. pos 0 -ℤ pos k) a_number_after_minus) (number_lexeme (decimal (suc n)) ∷ []) z) negated number)))

-- ---- parameters

same_test : (o : Option TokenSort) → is_sort sorts.Param o ≡ is_parameter o
same_test None = refl
same_test (Some sorts.Word) = refl
same_test (Some sorts.Number) = refl
same_test (Some sorts.TextLit) = refl
same_test (Some sorts.BlobLit) = refl
same_test (Some sorts.Param) = refl
same_test (Some sorts.Mark) = refl

-- tokens of which none is a parameter stay as they are where the parameters are numbered
pub none_numbered : (greatest : ℕ) (ts : List Token) → has_no_parameter (map lexeme_of ts) ≡ true → numbered greatest ts ≡ ts
unfolding numbered
none_numbered greatest [] h = refl
none_numbered greatest (t ∷ ts) h =
    let p = and_parts (not (is_parameter t.sort)) (has_no_parameter (map lexeme_of ts)) h in
    let other : is_sort sorts.Param t.sort ≡ false = same_test t.sort ∙ not-true (is_parameter t.sort) p.0 in
    ap (λ (u : Token). u ∷ numbered (greatest_after greatest t) ts) (unnumbered (suc greatest) t (not_plain t other))
    ∙ ap (λ (n : ℕ). t ∷ numbered n ts) (no_parameter_after greatest t other)
    ∙ ap (λ (us : List Token). t ∷ us) (none_numbered greatest ts p.1)

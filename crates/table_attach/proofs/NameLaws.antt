-- A name is read as itself.
use Rattle.std.proofs.Common.{◌≡◌, ℕ, Bool, true, false, List, [], ◌∷◌, map, refl, sym, ap, ◌∙◌, subst, length}
use Rattle.std.specs.Prelude.{◌&&◌, nat_le, not, Ok, Err}
use Rattle.std.proofs.lemmas.Bool.{and_parts}
use Rattle.std.proofs.lemmas.List.{append-nil}
use Rattle.vec_base.specs.Words.{is_name, is_reserved, is_small_word}
use Rattle.vec_literal.specs.Lexemes.{lexeme_of, word_lexeme}
use Rattle.vec_literal.specs.Tokens.{Token, tokens}
use Rattle.vec_literal.proofs.Following.{has_nothing, word_before}
use Rattle.grammar.specs.Grammar.{a_name}
use Rattle.grammar.specs.inner.Reading.{Outcome, read}
use Rattle.grammar.proofs.Laws.{complete}
use Rattle.vec0_columns.proofs.RoundTrip.{name_spelled}
use Rattle.vec0_columns.proofs.Written.{small_word}

one_token : (word : List ℕ) → is_name word ≡ true → map lexeme_of (tokens word 0) ≡ word_lexeme word ∷ []
one_token word h =
    let p = and_parts (is_small_word word && nat_le (length word) 64) (not (is_reserved word)) h in
    let q = and_parts (is_small_word word) (nat_le (length word) 64) p.0 in
    subst (λ (z : List ℕ). map lexeme_of (tokens z 0) ≡ word_lexeme word ∷ []) (append-nil word) ((word_before word [] [] (small_word word q.0) refl has_nothing).behind [])

name_read : (word : List ℕ) → is_name word ≡ true → read a_name (tokens word 0) ≡ Ok (word, [])
name_read word h =
    ap (λ (ts : List Token). read a_name ts) (sym (append-nil (tokens word 0)))
    ∙ complete a_name refl (tokens word 0) [] word ((name_spelled word h).told (tokens word 0) (one_token word h)) refl

told : (b : Bool) → (b ≡ true → ⊥) → b ≡ false
told true never = absurd (never refl)
told false never = refl

abbrev whole : List ℕ → List Token → Outcome (List ℕ)
whole name left = Ok (name, left)

never : (word : List ℕ) (left : List Token) → whole word [] ≡ Err left → ⊥
never word left same = cc

abbrev name_in : List ℕ → Outcome (List ℕ) → List ℕ
name_in word (Ok both) = both.0
name_in word (Err left) = word

first : (word name : List ℕ) (left : List Token) → whole word [] ≡ whole name left → word ≡ name
first word name left same = ap (name_in word) same

-- where no name is read the bytes are none
pub none_read : (word : List ℕ) (left : List Token) → read a_name (tokens word 0) ≡ Err left → is_name word ≡ false
none_read word left e = told (is_name word) (λ h. never word left (sym (name_read word h) ∙ e))

-- where another name is read the bytes are none
pub other_read : (word name : List ℕ) (left : List Token) → read a_name (tokens word 0) ≡ Ok (name, left) → (name ≡ word → ⊥) → is_name word ≡ false
other_read word name left e other = told (is_name word) (λ h. other (sym (first word name left (sym (name_read word h) ∙ e))))

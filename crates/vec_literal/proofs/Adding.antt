-- Pieces of a text and the tokens that each adds, put behind each other in the order in which the text is written.
use Rattle.std.proofs.Common.{◌≡◌, ℕ, Bool, true, false, not, List, [], ◌∷◌, ◌++◌, codes, map, Option, Some, refl, sym, ◌∙◌, subst, append_assoc}
use Rattle.std.specs.Prelude.{ℤ, pos, negsuc}
use Rattle.std.proofs.lemmas.Bool.{and_parts, and_from}
use Rattle.std.proofs.lemmas.List.{append-nil}
use Rattle.std.proofs.lemmas.List.Folds.{list_all-append}
use Rattle.std.specs.List.{list_all, flat_map}
use Rattle.vec_base.specs.declared.value.Value.{Value}
use Rattle.vec_base.specs.declared.value.Value.TheVariants as values
use Rattle.vec_literal.specs.declared.token.TokenSort.{TokenSort}
use Rattle.vec_literal.specs.declared.token.TokenSort.TheVariants as sorts
use Rattle.vec_base.specs.Representable.{IsRepresentable}
use Rattle.vec_literal.specs.Lexemes.{Lexeme, lexemes, word_lexeme, mark_lexeme}
use Rattle.vec_literal.specs.inner.Stretches.{is_pair, is_single}
use Rattle.vec_literal.specs.Tokens.{is_word_text}
use Rattle.vec_text.specs.ValueTexts.{value_text}
use Rattle.vec_literal.proofs.Following.{HasTokens, whole_text, has_nothing, space_before, word_before, mark_before, ends_word, unpaired}
use Rattle.vec_literal.proofs.LiteralsBefore.{pair_before, is_lone, lone_before, signed_lexemes}
use Rattle.vec_literal.proofs.ValuesBefore.{value_lexemes, ends_value, ended_word, value_before}

abbrev pub is_parameter : Option TokenSort → Bool
is_parameter (Some sorts.Param) = true
is_parameter other = false

-- no parameter is among them
abbrev pub has_no_parameter : List Lexeme → Bool
has_no_parameter words = list_all (λ l. not (is_parameter l.sort)) words

-- any bytes may follow
abbrev pub anything : List ℕ → Bool
anything rest = true

-- Where the bytes that follow are fit, the piece in front of them adds these tokens, of which none is a parameter.
pub record Adds (piece : List ℕ) (fit : List ℕ → Bool) (words : List Lexeme) : Type 0 where
  pub before : (rest : List ℕ) (more : List Lexeme) → fit rest ≡ true → HasTokens rest more → HasTokens (piece ++ rest) (words ++ more)
  pub constant : has_no_parameter words ≡ true

-- nothing
pub adds_nothing : {fit : List ℕ → Bool} → Adds [] fit []
adds_nothing = record { before = λ rest more e h. h; constant = refl }

-- one piece and another behind it
pub adds_then : {a b : List ℕ} {fit then_fit : List ℕ → Bool} {v w : List Lexeme} → Adds a fit v → Adds b then_fit w → ((rest : List ℕ) → then_fit rest ≡ true → fit (b ++ rest) ≡ true) → Adds (a ++ b) then_fit (v ++ w)
adds_then {a} {b} {fit} {then_fit} {v} {w} f s ends = record {
  before = λ rest more e h.
      subst (λ (z : List ℕ). HasTokens z ((v ++ w) ++ more)) (sym (append_assoc a b rest))
      (subst (λ (z : List Lexeme). HasTokens (a ++ (b ++ rest)) z) (sym (append_assoc v w more)) (f.before (b ++ rest) (w ++ more) (ends rest e) (s.before rest more e h)));
  constant = list_all-append (λ l. not (is_parameter l.sort)) v w ∙ and_from _ _ f.constant s.constant;
}

-- the same tokens, said otherwise
pub adds_as : {piece : List ℕ} {fit : List ℕ → Bool} {v w : List Lexeme} → v ≡ w → Adds piece fit v → Adds piece fit w
adds_as {piece} {fit} e a = subst (λ (z : List Lexeme). Adds piece fit z) e a

-- less may follow
pub adds_before : {piece : List ℕ} {fit narrow : List ℕ → Bool} {words : List Lexeme} → ((rest : List ℕ) → narrow rest ≡ true → fit rest ≡ true) → Adds piece fit words → Adds piece narrow words
adds_before narrower a = record { before = λ rest more e h. a.before rest more (narrower rest e) h; constant = a.constant }

-- a whole text has the tokens that its pieces add
pub adds_whole : {text : List ℕ} {fit : List ℕ → Bool} {words : List Lexeme} → fit [] ≡ true → Adds text fit words → lexemes text ≡ words
adds_whole {text} {fit} {words} e a =
    whole_text text words
    (subst (λ (z : List ℕ). HasTokens z words) (append-nil text) (subst (λ (z : List Lexeme). HasTokens (text ++ []) z) (append-nil words) (a.before [] [] e has_nothing)))

-- ---- pieces

pub adds_space : Adds (codes " ") anything []
adds_space = record { before = λ rest more e h. space_before rest more h; constant = refl }

pub adds_word : (word : List ℕ) → is_word_text word ≡ true → Adds word ends_word (word_lexeme word ∷ [])
adds_word word w = record { before = λ rest more e h. word_before word rest more w e h; constant = refl }

-- words, each with a space behind it
pub adds_words : (words : List (List ℕ)) → list_all is_word_text words ≡ true → Adds (flat_map (λ word. word ++ codes " ") words) anything (map word_lexeme words)
adds_words [] h = adds_nothing
adds_words (w ∷ ws) h =
    let p = and_parts (is_word_text w) (list_all is_word_text ws) h in
    adds_then (adds_then (adds_word w p.0) adds_space (λ rest e. refl)) (adds_words ws p.1) (λ rest e. refl)

pub adds_lone : (b : ℕ) → is_lone b ≡ true → Adds (b ∷ []) anything (mark_lexeme (b ∷ []) ∷ [])
adds_lone b l = record { before = λ rest more e h. lone_before b rest more l h; constant = refl }

pub adds_mark : (b : ℕ) → is_single b ≡ true → Adds (b ∷ []) (unpaired b) (mark_lexeme (b ∷ []) ∷ [])
adds_mark b s = record { before = λ rest more e h. mark_before b rest more s e h; constant = refl }

pub adds_pair : (b c : ℕ) → is_pair b c ≡ true → Adds (b ∷ c ∷ []) anything (mark_lexeme (b ∷ c ∷ []) ∷ [])
adds_pair b c p = record { before = λ rest more e h. pair_before b c rest more p h; constant = refl }

signed_constant : (z : ℤ) → has_no_parameter (signed_lexemes z) ≡ true
signed_constant (pos n) = refl
signed_constant (negsuc n) = refl

value_constant : (v : Value) → has_no_parameter (value_lexemes v) ≡ true
value_constant values.Null = refl
value_constant (values.Int n) = signed_constant n
value_constant (values.Text text) = refl
value_constant (values.Blob bytes) = refl
value_constant (values.Int8 vector) = refl
value_constant (values.Bits bytes) = refl

pub adds_value : (v : Value) → IsRepresentable v → Adds (value_text v) ends_value (value_lexemes v)
adds_value v held = record { before = λ rest more e h. value_before v rest more held e h; constant = value_constant v }

-- a name, before a space, a comma, a closing parenthesis or the end
pub adds_name : (word : List ℕ) → is_word_text word ≡ true → Adds word ends_value (word_lexeme word ∷ [])
adds_name word w = adds_before ended_word (adds_word word w)

-- Spellings by lexemes: that tokens spell a part depends on their places nowhere but in the tokens that are its value.
use Rattle.std.proofs.Common.{◌≡◌, ℕ, ◌-◌, ◌^◌, ◌<◌, true, not, ◌&&◌, List, [], ◌∷◌, ◌++◌, length, Some, None, map, inl, inr, refl, sym, ◌∙◌, ap, subst, arith}
use Rattle.std.specs.Prelude.{nat_le, bytes_eq, IsTrue}
use Rattle.std.specs.Fmt.{decimal}
use Rattle.std.specs.Str.Parse.{digits_value}
use Rattle.std.proofs.lemmas.Bool.{and_from, le-leb}
use Rattle.std.proofs.lemmas.Fmt.{decimal_is_IsNumeral}
use Rattle.vec_literal.specs.Lexemes.{Lexeme, lexeme_of, word_lexeme, number_lexeme, mark_lexeme}
use Rattle.vec_literal.specs.Tokens.{Token}
use Rattle.grammar.specs.Grammar.{Class, keyword, sign, name, number, lower, lowered, number_of, fits, Part, one, seq, alt, opt, many, means, ◌▸◌, ◌◂◌, a_word, a_mark, a_name, a_number, Spells}
use Rattle.vec_base.specs.Words.{is_reserved}

-- any tokens with these lexemes spell the part, with the value
pub record LexemesSpell {A : Type 0} (p : Part A) (ls : List Lexeme) (v : A) : Type 0 where
  pub told : (ts : List Token) → map lexeme_of ts ≡ ls → Spells p ts v

-- ---- one token

-- tokens with one lexeme are one token with it
pub record OneToken (ts : List Token) (l : Lexeme) : Type 0 where
  pub token : Token
  pub whole : ts ≡ token ∷ []
  pub same : lexeme_of token ≡ l

abbrev first_lexeme : Lexeme → List Lexeme → Lexeme
first_lexeme l [] = l
first_lexeme l (m ∷ ms) = m

abbrev rest_lexemes : List Lexeme → List Lexeme
rest_lexemes [] = []
rest_lexemes (m ∷ ms) = ms

pub one_token : (ts : List Token) (l : Lexeme) → map lexeme_of ts ≡ l ∷ [] → OneToken ts l
one_token [] l h = absurd cc
one_token (t ∷ []) l h = record { token = t; whole = refl; same = ap (λ ls. first_lexeme l ls) h }
one_token (t ∷ u ∷ ts) l h = absurd (let e : lexeme_of u ∷ map lexeme_of ts ≡ [] = ap (λ ls. rest_lexemes ls) h in cc)

-- a place for one token, which stands for a value
pub of_token : {A : Type 0} (c : Class) (f : Token → A) (l : Lexeme) (v : A) → ((t : Token) → lexeme_of t ≡ l → IsTrue (fits c t) × (v ≡ f t)) → LexemesSpell (means f (one c)) (l ∷ []) v
of_token c f l v h = record {
  told = λ ts e. (let o : OneToken ts l = one_token ts l e in let fit = h o.token o.same in (o.token, (o.whole, fit.0), fit.1));
}

-- ---- parts put together

-- tokens with joined lexemes are joined
pub record SplitTokens (ts : List Token) (ls ms : List Lexeme) : Type 0 where
  pub front : List Token
  pub rest : List Token
  pub whole : ts ≡ front ++ rest
  pub first : map lexeme_of front ≡ ls
  pub second : map lexeme_of rest ≡ ms

pub split_tokens : (ts : List Token) (ls ms : List Lexeme) → map lexeme_of ts ≡ ls ++ ms → SplitTokens ts ls ms
split_tokens ts [] ms h = record { front = []; rest = ts; whole = refl; first = refl; second = h }
split_tokens [] (l ∷ ls) ms h = absurd cc
split_tokens (t ∷ ts) (l ∷ ls) ms h =
    let s : SplitTokens ts ls ms = split_tokens ts ls ms (ap (λ xs. rest_lexemes xs) h) in
    let head : lexeme_of t ≡ l = ap (λ xs. first_lexeme l xs) h in
    record {
      front = t ∷ s.front;
      rest = s.rest;
      whole = ap (λ xs. t ∷ xs) s.whole;
      first = ap (λ x. x ∷ map lexeme_of s.front) head ∙ ap (λ xs. l ∷ xs) s.first;
      second = s.second;
    }

pub of_seq : {A B : Type 0} (p : Part A) (q : Part B) (ls ms : List Lexeme) (v : A) (w : B) → LexemesSpell p ls v → LexemesSpell q ms w → LexemesSpell (seq p q) (ls ++ ms) (v, w)
of_seq p q ls ms v w a b = record {
  told = λ ts e. (let s : SplitTokens ts ls ms = split_tokens ts ls ms e in
      record { front = s.front; rest = s.rest; whole = s.whole; first = a.told s.front s.first; second = b.told s.rest s.second });
}

pub of_means : {A B : Type 0} (f : A → B) (p : Part A) (ls : List Lexeme) (v : A) → LexemesSpell p ls v → LexemesSpell (means f p) ls (f v)
of_means f p ls v a = record { told = λ ts e. (v, a.told ts e, refl) }

-- the second has the value, or the first
pub of_second : {A B : Type 0} (p : Part A) (q : Part B) (ls ms : List Lexeme) (v : A) (w : B) → LexemesSpell p ls v → LexemesSpell q ms w → LexemesSpell (p ▸ q) (ls ++ ms) w
of_second p q ls ms v w a b = of_means (λ x. x.1) (seq p q) (ls ++ ms) (v, w) (of_seq p q ls ms v w a b)

pub of_first : {A B : Type 0} (p : Part A) (q : Part B) (ls ms : List Lexeme) (v : A) (w : B) → LexemesSpell p ls v → LexemesSpell q ms w → LexemesSpell (p ◂ q) (ls ++ ms) v
of_first p q ls ms v w a b = of_means (λ x. x.0) (seq p q) (ls ++ ms) (v, w) (of_seq p q ls ms v w a b)

pub of_left : {A : Type 0} {p q : Part A} {ls : List Lexeme} {v : A} → LexemesSpell p ls v → LexemesSpell (alt p q) ls v
of_left a = record { told = λ ts e. inl (a.told ts e) }

pub of_right : {A : Type 0} {p q : Part A} {ls : List Lexeme} {v : A} → LexemesSpell q ls v → LexemesSpell (alt p q) ls v
of_right a = record { told = λ ts e. inr (a.told ts e) }

pub no_tokens : (ts : List Token) → map lexeme_of ts ≡ [] → ts ≡ []
no_tokens [] h = refl
no_tokens (t ∷ ts) h = absurd cc

pub of_none : {A : Type 0} (p : Part A) → LexemesSpell (opt p) [] None
of_none p = record { told = λ ts e. no_tokens ts e }

pub of_some : {A : Type 0} (p : Part A) (ls : List Lexeme) (v : A) → LexemesSpell p ls v → LexemesSpell (opt p) ls (Some v)
of_some p ls v a = record { told = λ ts e. a.told ts e }

pub of_nothing : {A : Type 0} (p : Part A) → LexemesSpell (many p) [] []
of_nothing p = record { told = λ ts e. no_tokens ts e }

pub of_more : {A : Type 0} (p : Part A) (ls ms : List Lexeme) (v : A) (vs : List A) → LexemesSpell p ls v → LexemesSpell (many p) ms vs → LexemesSpell (many p) (ls ++ ms) (v ∷ vs)
of_more p ls ms v vs a b = record {
  told = λ ts e. (let s : SplitTokens ts ls ms = split_tokens ts ls ms e in
      record { front = s.front; rest = s.rest; whole = s.whole; first = a.told s.front s.first; second = b.told s.rest s.second });
}

-- ---- words, marks, names and numbers

pub of_word : (word spelled : List ℕ) → bytes_eq (lowered spelled) (lowered word) ≡ true → LexemesSpell (a_word word) (word_lexeme spelled ∷ []) tt
unfolding fits
of_word word spelled h = of_token (keyword word) (λ t. tt) (word_lexeme spelled) tt (λ t e. (subst (λ (l : Lexeme). fits (keyword word) (record { sort = l.sort; spelling = l.spelling; place = t.place }) ≡ true) (sym e) h, refl))

pub of_mark : (mark : List ℕ) → bytes_eq mark mark ≡ true → LexemesSpell (a_mark mark) (mark_lexeme mark ∷ []) tt
unfolding fits
of_mark mark h = of_token (sign mark) (λ t. tt) (mark_lexeme mark) tt (λ t e. (subst (λ (l : Lexeme). fits (sign mark) (record { sort = l.sort; spelling = l.spelling; place = t.place }) ≡ true) (sym e) h, refl))

-- a name that is in lower case
pub of_name : (word : List ℕ) → lowered word ≡ word → nat_le (length word) 64 ≡ true → not (is_reserved word) ≡ true → LexemesSpell a_name (word_lexeme word ∷ []) word
unfolding fits
of_name word low few free =
    let named : (nat_le (length word) 64 && not (is_reserved (lowered word))) ≡ true = and_from _ _ few (ap (λ (w : List ℕ). not (is_reserved w)) low ∙ free) in
    of_token name lower (word_lexeme word) word (λ t e. (
      subst (λ (l : Lexeme). fits name (record { sort = l.sort; spelling = l.spelling; place = t.place }) ≡ true) (sym e) named,
      sym low ∙ ap (λ (l : Lexeme). lowered l.spelling) (sym e),
    ))

-- the decimal text of a number
pub of_number : (n : ℕ) → n < 2 ^ 63 → LexemesSpell a_number (number_lexeme (decimal n) ∷ []) n
unfolding fits
of_number n few =
    let value : digits_value 10 (decimal n) ≡ n = (decimal_is_IsNumeral n (omega arith)).1 in
    let small : nat_le (digits_value 10 (decimal n)) (2 ^ 63 - 1) ≡ true = ap (λ (k : ℕ). nat_le k (2 ^ 63 - 1)) value ∙ le-leb n (2 ^ 63 - 1) (omega arith) in
    of_token number number_of (number_lexeme (decimal n)) n (λ t e. (
      subst (λ (l : Lexeme). fits number (record { sort = l.sort; spelling = l.spelling; place = t.place }) ≡ true) (sym e) small,
      sym value ∙ ap (λ (l : Lexeme). digits_value 10 l.spelling) (sym e),
    ))

-- Spellings by lexemes whose value tells places: what holds of the value, whatever the places of the tokens.
use Rattle.std.proofs.Common.{◌≡◌, List, [], ◌∷◌, ◌++◌, Option, Some, None, map, inl, inr, refl}
use Rattle.std.specs.Prelude.{IsTrue}
use Rattle.vec_literal.specs.Lexemes.{Lexeme, lexeme_of}
use Rattle.vec_literal.specs.Tokens.{Token}
use Rattle.grammar.specs.Grammar.{Class, fits, Part, one, seq, alt, opt, many, means, ◌▸◌, ◌◂◌, Spells}
use Rattle.grammar.proofs.Lexemes.{LexemesSpell, OneToken, one_token, SplitTokens, split_tokens, no_tokens}

-- any tokens with these lexemes spell the part, with a value of which P holds
pub record LexemesGive {A : Type 0} (p : Part A) (ls : List Lexeme) (P : A → Type 0) : Type 0 where
  pub told : (ts : List Token) → map lexeme_of ts ≡ ls → (v : A) × Spells p ts v × P v

-- a known value is one
pub give_known : {A : Type 0} {p : Part A} {ls : List Lexeme} {v : A} (P : A → Type 0) → P v → LexemesSpell p ls v → LexemesGive p ls P
give_known {v = v} P h s = record { told = λ ts e. (v, s.told ts e, h) }

-- what follows from P holds too
pub give_more : {A : Type 0} {p : Part A} {ls : List Lexeme} {P Q : A → Type 0} → ((v : A) → P v → Q v) → LexemesGive p ls P → LexemesGive p ls Q
give_more f g = record { told = λ ts e. (let (v, s, h) = g.told ts e in (v, s, f v h)) }

pub give_token : (c : Class) (l : Lexeme) (P : Token → Type 0) → ((t : Token) → lexeme_of t ≡ l → IsTrue (fits c t) × P t) → LexemesGive (one c) (l ∷ []) P
give_token c l P h = record {
  told = λ ts e. (let o : OneToken ts l = one_token ts l e in let fit = h o.token o.same in (o.token, (o.whole, fit.0), fit.1));
}

pub give_seq : {A B : Type 0} {p : Part A} {q : Part B} {ls ms : List Lexeme} {P : A → Type 0} {Q : B → Type 0} → LexemesGive p ls P → LexemesGive q ms Q → LexemesGive (seq p q) (ls ++ ms) (λ x. P x.0 × Q x.1)
give_seq {ls = ls} {ms = ms} a b = record {
  told = λ ts e.
      (let s : SplitTokens ts ls ms = split_tokens ts ls ms e in
      let (v, f, g) = a.told s.front s.first in
      let (w, h, k) = b.told s.rest s.second in
      ((v, w), record { front = s.front; rest = s.rest; whole = s.whole; first = f; second = h }, (g, k)));
}

pub give_means : {A B : Type 0} {p : Part A} {ls : List Lexeme} {P : A → Type 0} (f : A → B) (Q : B → Type 0) → ((v : A) → P v → Q (f v)) → LexemesGive p ls P → LexemesGive (means f p) ls Q
give_means f Q h g = record { told = λ ts e. (let (v, s, k) = g.told ts e in (f v, (v, s, refl), h v k)) }

-- the first tells nothing, or the second does not

pub give_second : {A B : Type 0} {p : Part A} {q : Part B} {ls ms : List Lexeme} {v : A} {Q : B → Type 0} → LexemesSpell p ls v → LexemesGive q ms Q → LexemesGive (p ▸ q) (ls ++ ms) Q
give_second {A} {B} {v = v} {Q = Q} a b = give_means (λ x. x.1) Q (λ x h. h.1) (give_seq (give_known (λ w. w ≡ v) refl a) b)

pub give_first : {A B : Type 0} {p : Part A} {q : Part B} {ls ms : List Lexeme} {w : B} {P : A → Type 0} → LexemesGive p ls P → LexemesSpell q ms w → LexemesGive (p ◂ q) (ls ++ ms) P
give_first {w = w} {P = P} a b = give_means (λ x. x.0) P (λ x h. h.0) (give_seq a (give_known (λ v. v ≡ w) refl b))

pub give_left : {A : Type 0} {p q : Part A} {ls : List Lexeme} {P : A → Type 0} → LexemesGive p ls P → LexemesGive (alt p q) ls P
give_left g = record { told = λ ts e. (let (v, s, h) = g.told ts e in (v, inl s, h)) }

pub give_right : {A : Type 0} {p q : Part A} {ls : List Lexeme} {P : A → Type 0} → LexemesGive q ls P → LexemesGive (alt p q) ls P
give_right g = record { told = λ ts e. (let (v, s, h) = g.told ts e in (v, inr s, h)) }

pub give_none : {A : Type 0} (p : Part A) (P : Option A → Type 0) → P None → LexemesGive (opt p) [] P
give_none p P h = record { told = λ ts e. (None, no_tokens ts e, h) }

pub give_some : {A : Type 0} {p : Part A} {ls : List Lexeme} {P : A → Type 0} (Q : Option A → Type 0) → ((v : A) → P v → Q (Some v)) → LexemesGive p ls P → LexemesGive (opt p) ls Q
give_some Q f g = record { told = λ ts e. (let (v, s, h) = g.told ts e in (Some v, s, f v h)) }

pub give_nothing : {A : Type 0} (p : Part A) (P : List A → Type 0) → P [] → LexemesGive (many p) [] P
give_nothing p P h = record { told = λ ts e. ([], no_tokens ts e, h) }

pub give_another : {A : Type 0} {p : Part A} {ls ms : List Lexeme} {P : A → Type 0} {Q : List A → Type 0} (R : List A → Type 0) → ((v : A) (vs : List A) → P v → Q vs → R (v ∷ vs)) →
    LexemesGive p ls P → LexemesGive (many p) ms Q → LexemesGive (many p) (ls ++ ms) R
give_another {ls = ls} {ms = ms} R f a b = record {
  told = λ ts e.
      (let s : SplitTokens ts ls ms = split_tokens ts ls ms e in
      let (v, g, h) = a.told s.front s.first in
      let (vs, k, l) = b.told s.rest s.second in
      (v ∷ vs, record { front = s.front; rest = s.rest; whole = s.whole; first = g; second = k }, f v vs h l));
}

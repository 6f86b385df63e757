-- The lexemes of a statement's text spell it, part by part.
use Rattle.std.proofs.Common.{◌≡◌, ℕ, suc, true, List, [], ◌∷◌, ◌++◌, codes, length, refl, sym, ◌∙◌, ap, subst}
use Rattle.std.specs.List.{flat_map, AllByRecursion}
use Rattle.vec_base.specs.declared.value.Value.{Value}
use Rattle.vec_base.specs.declared.value.Value.TheVariants as values
use Rattle.vec_base.specs.Representable.{IsRepresentable}
use Rattle.vec_literal.specs.Int8.{SpellsInt8}
use Rattle.vec_literal.specs.Lexemes.{Lexeme, word_lexeme, mark_lexeme, text_lexeme, blob_lexeme}
use Rattle.vec_text.specs.ValueTexts.{quoted, blob_text, int8_text}
use Rattle.vec_literal.proofs.Int8Written.{bytes_spell}
use Rattle.vec_literal.proofs.LiteralsBefore.{AllBytes, signed_lexemes}
use Rattle.vec_literal.proofs.ValuesBefore.{value_lexemes, all_bytes, small_number}
use Rattle.grammar.specs.Grammar.{Part, seq, many, list_of, means, ◌▸◌, a_word, a_mark, a_text, a_blob, a_signed_number}
use Rattle.grammar.proofs.Lexemes.{LexemesSpell, of_means, of_word, of_mark}
use Rattle.grammar.proofs.LexemesGive.{LexemesGive, give_known, give_seq, give_means, give_second, give_first, give_left, give_right, give_nothing, give_another}
use Rattle.grammar.proofs.LiteralLexemes.{of_text, of_blob, of_signed_number, give_placed_text}
use Rattle.row_model.specs.WellFormed.{is_filled}
use Rattle.sql_reader.specs.declared.given.Given.{Given}
use Rattle.sql_reader.specs.declared.given.Given.TheVariants as givens
use Rattle.sql_reader.specs.GivenStatements.{checks_of, uses_of}
use Rattle.sql_reader.specs.StatementReading.{Passes, Each, MeansValue}
use Rattle.sql_reader.specs.StatementGrammar.{in_parentheses, vec_int8, vec_bit, value}
use Rattle.vec_sql.proofs.TextLexemes.{behind_lexemes, separated_lexemes, listed_lexemes}

-- ---- lists

-- what holds of each pair gives what holds of each pair
pub each_more : {A B : Type 0} (R S : A → B → Type 0) → ((x : A) (y : B) → R x y → S x y) → (xs : List A) (ys : List B) → Each R xs ys → Each S xs ys
each_more R S f [] [] h = tt
each_more R S f (x ∷ xs) (y ∷ ys) h = (f x y h.0, each_more R S f xs ys h.1)
each_more R S f [] (y ∷ ys) h = absurd h
each_more R S f (x ∷ xs) [] h = absurd h

pub each_length : {A B : Type 0} (R : A → B → Type 0) (xs : List A) (ys : List B) → Each R xs ys → length xs ≡ length ys
each_length R [] [] h = refl
each_length R (x ∷ xs) (y ∷ ys) h = ap suc (each_length R xs ys h.1)
each_length R [] (y ∷ ys) h = absurd h
each_length R (x ∷ xs) [] h = absurd h

pub each_same : {A : Type 0} (xs ys : List A) → Each (λ x y. x ≡ y) xs ys → xs ≡ ys
each_same [] [] h = refl
each_same (x ∷ xs) (y ∷ ys) h = ap (λ z. z ∷ xs) h.0 ∙ ap (λ zs. y ∷ zs) (each_same xs ys h.1)
each_same [] (y ∷ ys) h = absurd h
each_same (x ∷ xs) [] h = absurd h

-- each element's lexemes give what it stands for
abbrev pub AllGive : {A X : Type 0} → Part A → (X → List Lexeme) → (A → X → Type 0) → List X → Type 0
AllGive p words R xs = AllByRecursion (λ x. LexemesGive p (words x) (λ v. R v x)) xs

many_given : {A X : Type 0} (p : Part A) (s : Part (Unit {0})) (l : Lexeme) (words : X → List Lexeme) (R : A → X → Type 0) (xs : List X) → LexemesSpell s (l ∷ []) tt → AllGive p words R xs →
    LexemesGive (many (s ▸ p)) (behind_lexemes l words xs) (λ vs. Each R vs xs)
many_given p s l words R [] h all = give_nothing (s ▸ p) (λ vs. Each R vs []) tt
many_given p s l words R (x ∷ xs) h all = give_another (λ vs. Each R vs (x ∷ xs)) (λ v vs g k. (g, k)) (give_second h all.0) (many_given p s l words R xs h all.1)

-- one and others behind it
pub separated_given : {A X : Type 0} (p : Part A) (s : Part (Unit {0})) (l : Lexeme) (words : X → List Lexeme) (R : A → X → Type 0) (x : X) (xs : List X) → LexemesSpell s (l ∷ []) tt → AllGive p words R (x ∷ xs) →
    LexemesGive (means (λ v. v.0 ∷ v.1) (seq p (many (s ▸ p)))) (separated_lexemes l words (x ∷ xs)) (λ vs. Each R vs (x ∷ xs))
separated_given p s l words R x xs h all = give_means (λ v. v.0 ∷ v.1) (λ vs. Each R vs (x ∷ xs)) (λ v g. g) (give_seq all.0 (many_given p s l words R xs h all.1))

-- a list with an element
pub list_given : {A X : Type 0} (p : Part A) (words : X → List Lexeme) (R : A → X → Type 0) (xs : List X) → is_filled xs ≡ true → AllGive p words R xs → LexemesGive (list_of p) (listed_lexemes words xs) (λ vs. Each R vs xs)
list_given p words R [] some all = absurd cc
list_given p words R (x ∷ xs) some all = separated_given p (a_mark (codes ",")) (mark_lexeme (codes ",")) words R x xs (of_mark (codes ",") refl) all

pub parentheses_given : {A : Type 0} {p : Part A} {ls : List Lexeme} {P : A → Type 0} → LexemesGive p ls P → LexemesGive (in_parentheses p) (mark_lexeme (codes "(") ∷ (ls ++ mark_lexeme (codes ")") ∷ [])) P
parentheses_given g = give_second (of_mark (codes "(") refl) (give_first g (of_mark (codes ")") refl))

-- ---- values

-- texts of vectors spell vectors, and there is no parameter
pub record ArePlain (all : List Given) : Type 0 where
  pub passed : AllByRecursion Passes (flat_map checks_of all)
  pub unused : flat_map uses_of all ≡ []

-- what is given stands for the value
pub record StandsFor (given : Given) (v : Value) : Type 0 where
  pub means : MeansValue [] given v
  pub plain : ArePlain (given ∷ [])

-- a value that is given as it is
as_it_is : (v : Value) → StandsFor (givens.Value v) v
as_it_is v = record { means = refl; plain = record { passed = tt; unused = refl } }

-- the text of an int8 vector, at any place
text_stands : (vector text : List ℕ) (place : ℕ) → AllBytes vector → text ≡ int8_text vector → StandsFor (givens.Int8Text place text) (values.Int8 vector)
text_stands vector text place h e =
    let spelled : SpellsInt8 text vector = subst (λ (z : List ℕ). SpellsInt8 z vector) (sym e) (bytes_spell vector h) in
    record { means = (vector, spelled, refl); plain = record { passed = ((vector, spelled), tt); unused = refl } }

int8_given : (vector : List ℕ) → AllBytes vector → LexemesGive vec_int8 (value_lexemes (values.Int8 vector)) (λ g. StandsFor g (values.Int8 vector))
unfolding vec_int8
int8_given vector h =
    give_second (of_word (codes "VEC_INT8") (codes "vec_int8") refl)
    (parentheses_given (give_left (give_means (λ x. givens.Int8Text x.0 x.1) (λ g. StandsFor g (values.Int8 vector)) (λ x e. text_stands vector x.1 x.0 h e) (give_placed_text (int8_text vector)))))

bits_given : (bytes : List ℕ) → AllBytes bytes → LexemesGive vec_bit (value_lexemes (values.Bits bytes)) (λ g. StandsFor g (values.Bits bytes))
unfolding vec_bit
bits_given bytes h =
    give_second (of_word (codes "VEC_BIT") (codes "vec_bit") refl)
    (parentheses_given (give_left (give_known (λ g. StandsFor g (values.Bits bytes)) (as_it_is (values.Bits bytes)) (of_means (λ b. givens.Value (values.Bits b)) a_blob (blob_lexeme (blob_text bytes) ∷ []) bytes (of_blob bytes h)))))

pub value_given : (v : Value) → IsRepresentable v → LexemesGive value (value_lexemes v) (λ g. StandsFor g v)
unfolding value
value_given values.Null h =
    give_right (give_right (give_right (give_left (give_known (λ g. StandsFor g values.Null) (as_it_is values.Null)
    (of_means (λ x. givens.Value values.Null) (a_word (codes "NULL")) (word_lexeme (codes "NULL") ∷ []) tt (of_word (codes "NULL") (codes "NULL") refl))))))
value_given (values.Int n) h =
    give_left (give_known (λ g. StandsFor g (values.Int n)) (as_it_is (values.Int n)) (of_means (λ z. givens.Value (values.Int z)) a_signed_number (signed_lexemes n) n (of_signed_number n (small_number n h))))
value_given (values.Text text) h =
    give_right (give_left (give_known (λ g. StandsFor g (values.Text text)) (as_it_is (values.Text text)) (of_means (λ t. givens.Value (values.Text t)) a_text (text_lexeme (quoted text) ∷ []) text (of_text text))))
value_given (values.Blob bytes) h =
    give_right (give_right (give_left (give_known (λ g. StandsFor g (values.Blob bytes)) (as_it_is (values.Blob bytes))
    (of_means (λ b. givens.Value (values.Blob b)) a_blob (blob_lexeme (blob_text bytes) ∷ []) bytes (of_blob bytes (all_bytes bytes h))))))
value_given (values.Int8 vector) h = give_right (give_right (give_right (give_right (give_right (give_right (give_right (give_left (int8_given vector (all_bytes vector h)))))))))
value_given (values.Bits bytes) h = give_right (give_right (give_right (give_right (give_right (give_right (give_right (give_right (bits_given bytes (all_bytes bytes h)))))))))

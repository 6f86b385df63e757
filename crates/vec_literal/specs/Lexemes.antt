-- Lexemes: tokens without their places, so that texts can be compared by what they say.
use Rattle.std.specs.Prelude.{ℕ, List, map, Option, Some}
use Rattle.vec_literal.specs.declared.token.TokenSort.{TokenSort}
use Rattle.vec_literal.specs.declared.token.TokenSort.TheVariants as sorts
use Rattle.vec_literal.specs.Tokens.{Token, tokens}

-- a sort and a spelling
pub record Lexeme : Type 0 where
  pub sort : Option TokenSort
  pub spelling : List ℕ

abbrev pub lexeme_of : Token → Lexeme
lexeme_of t = record { sort = t.sort; spelling = t.spelling }

-- the lexemes of a text
abbrev pub lexemes : List ℕ → List Lexeme
lexemes text = map lexeme_of (tokens text 0)

abbrev pub word_lexeme : List ℕ → Lexeme
word_lexeme bytes = record { sort = Some sorts.Word; spelling = bytes }

abbrev pub number_lexeme : List ℕ → Lexeme
number_lexeme bytes = record { sort = Some sorts.Number; spelling = bytes }

abbrev pub mark_lexeme : List ℕ → Lexeme
mark_lexeme bytes = record { sort = Some sorts.Mark; spelling = bytes }

abbrev pub text_lexeme : List ℕ → Lexeme
text_lexeme bytes = record { sort = Some sorts.TextLit; spelling = bytes }

abbrev pub blob_lexeme : List ℕ → Lexeme
blob_lexeme bytes = record { sort = Some sorts.BlobLit; spelling = bytes }

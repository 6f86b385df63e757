-- The next token decides each choice of the column text.
use Rattle.std.proofs.Common.{◌≡◌, true, false, List, [], ◌∷◌, refl}
use Rattle.vec_literal.specs.Tokens.{Token}
use Rattle.vec_base.specs.Words.{is_reserved}
use Rattle.grammar.specs.inner.Reading.{next_in, decides, overlap, nexts}
use Rattle.vec0_columns.specs.ColumnGrammar.{metric, integer_word, boolean_word, int8, bits, chunk_size}
use Rattle.vec0_columns.specs.inner.FactoredColumns.{key, integer_kind, text_kind, text_or_boolean, scalar_kind, kind, auxiliary_kind, factored_arg, factored_columns, factored_enclosed}

pub columns_decides : decides factored_columns ≡ true
unfolding factored_columns factored_arg auxiliary_kind kind scalar_kind text_or_boolean text_kind integer_kind key metric integer_word boolean_word int8 bits chunk_size overlap is_reserved
columns_decides = refl

pub enclosed_decides : decides factored_enclosed ≡ true
unfolding factored_enclosed factored_columns factored_arg auxiliary_kind kind scalar_kind text_or_boolean text_kind integer_kind key metric integer_word boolean_word int8 bits chunk_size overlap is_reserved
enclosed_decides = refl

-- nothing more can follow the closing parenthesis
pub enclosed_ends : (ts : List Token) → next_in (nexts factored_enclosed) ts ≡ false
unfolding factored_enclosed
enclosed_ends [] = refl
enclosed_ends (t ∷ ts) = refl

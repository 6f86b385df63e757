-- The refusals of a text that is too long, and of one that fails at a token.
use Rattle.std.specs.Prelude.{◌≡◌, ◌<◌, ℕ, cond, List, [], ◌∷◌, length, Option, Some, None}
use Rattle.vec_base.specs.Words.{unsupported_number}
use Rattle.vec_base.specs.declared.limits.TheConstants.{MOST_TEXT_BYTES}
use Rattle.vec_base.specs.declared.refusal.Refusal.{Refusal}
use Rattle.vec_base.specs.declared.refusal.Refusal.TheVariants.{Syntax, Unsupported}
use Rattle.vec_literal.specs.Tokens.{Token}
use Rattle.vec_literal.specs.declared.token.TokenSort.TheVariants.{Word}
use Rattle.grammar.specs.Grammar.{is_sort, lower}

-- the text has too many bytes, and the refusal is the one that says how many it may have
abbrev pub IsTooLong : List ℕ → Refusal → Type 0
IsTooLong text refusal = (MOST_TEXT_BYTES < length text) × (refusal ≡ Syntax MOST_TEXT_BYTES)

abbrev pub refusal_by : ℕ → Option ℕ → Refusal
refusal_by place None = Syntax place
refusal_by place (Some number) = Unsupported number

-- `Unsupported` where the failing token, the first of these, is an unsupported word, and else `Syntax` with its place, or the
-- text's length where there is no token
abbrev pub refusal_of : ℕ → List Token → Refusal
refusal_of end [] = Syntax end
refusal_of end (t ∷ ts) = refusal_by t.place (cond (is_sort Word t.sort) (unsupported_number (lower t)) None)

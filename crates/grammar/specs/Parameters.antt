-- Parameters by their numbers.
use Rattle.std.specs.Prelude.{ℕ, suc, Bool, ◌&&◌, if◌then◌else◌, List, [], ◌∷◌, ◌++◌, Option, Some, None, codes, bytes_eq, nat_le, max}
use Rattle.std.specs.Fmt.{decimal}
use Rattle.vec_base.specs.declared.limits.TheConstants.{MOST_PARAMETERS}
use Rattle.vec_literal.specs.Tokens.{Token, tokens}
use Rattle.vec_literal.specs.declared.token.TokenSort.TheVariants as sorts
use Rattle.grammar.specs.Grammar.{is_sort, parameter_number}

-- a `?` without a number
abbrev pub is_plain : Token → Bool
is_plain t = is_sort sorts.Param t.sort && bytes_eq t.spelling (codes "?")

-- The token, where a plain `?` gets the number. None above the greatest one fits a place, and there the `?` stays, which fits
-- none either.
abbrev pub with_number : ℕ → Token → Token
with_number number t = record t { spelling = if is_plain t && nat_le number MOST_PARAMETERS then codes "?" ++ decimal number else t.spelling }

-- the greatest number so far once the token is passed, where a plain `?` has the number one above the greatest before it
abbrev pub greatest_after : ℕ → Token → ℕ
greatest_after greatest t =
    if is_plain t then suc greatest else if is_sort sorts.Param t.sort then max greatest (parameter_number t) else greatest

-- the tokens with each plain `?` numbered, behind tokens of which the greatest number is given
unfoldable pub numbered : ℕ → List Token → List Token
numbered greatest [] = []
numbered greatest (t ∷ ts) = with_number (suc greatest) t ∷ numbered (greatest_after greatest t) ts

-- the tokens of a text with each plain `?` numbered; the first gets 1
abbrev pub numbered_tokens : List ℕ → List Token
numbered_tokens text = numbered 0 (tokens text 0)

-- the same where there is a greatest number, and the tokens as they are where there is none
abbrev pub numbered_from : Option ℕ → List Token → List Token
numbered_from None ts = ts
numbered_from (Some greatest) ts = numbered greatest ts

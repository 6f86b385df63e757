-- Worked examples, by computing.
use Rattle.std.proofs.Common.{◌≡◌, ℕ, List, [], ◌∷◌, map, Some, true, refl}
use Rattle.std.specs.Prelude.{codes}
use Rattle.std.specs.Fmt.{digits}
use Rattle.vec_literal.specs.Tokens.{Token}
use Rattle.vec_literal.specs.declared.token.TokenSort.TheVariants as sorts
use Rattle.grammar.specs.Grammar.{Part, seq, alt, opt, means, a_word, a_mark, a_text, a_blob, a_parameter, a_signed_number}
use Rattle.grammar.specs.Parameters.{numbered}
use Rattle.grammar.specs.inner.Reading.{decides, overlap}

abbrev parameter_at : List ℕ → ℕ → Token
parameter_at spelling place = record { sort = Some sorts.Param; spelling = spelling; place = place }

-- `? ?7 ? ?3 ?` has the parameters 1, 7, 8, 3 and 9
five_numbered :
    map (λ t. t.spelling) (numbered 0 (parameter_at (codes "?") 0 ∷ parameter_at (codes "?7") 2 ∷ parameter_at (codes "?") 5 ∷ parameter_at (codes "?3") 7 ∷ parameter_at (codes "?") 10 ∷ []))
    ≡ codes "?1" ∷ codes "?7" ∷ codes "?8" ∷ codes "?3" ∷ codes "?9" ∷ []
unfolding numbered digits
five_numbered = refl

-- behind 999 a plain `?` gets no number
none_left : map (λ t. t.spelling) (numbered 0 (parameter_at (codes "?999") 0 ∷ parameter_at (codes "?") 5 ∷ [])) ≡ codes "?999" ∷ codes "?" ∷ []
unfolding numbered digits
none_left = refl

abbrev any_literal : Part (List ℕ)
any_literal = alt a_text (alt a_blob (alt (means (λ n. n ∷ []) a_parameter) (alt (means (λ z. []) a_signed_number) (means (λ u. []) (a_word (codes "NULL"))))))

-- the next token tells literals apart
literals_decided : decides (seq any_literal (opt (a_mark (codes ",")))) ≡ true
unfolding a_signed_number overlap
literals_decided = refl

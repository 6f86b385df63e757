-- What a reader of a part returns.
use Rattle.std.specs.Prelude.{◌≡◌, ◌≤◌, suc, nat_le, nat_lt, if◌then◌else◌, Option, Some, None, true, false, not, ◌||◌, ◌&&◌, ℕ, List, [], ◌∷◌, Result, Ok, Err, Bool}
use Rattle.std.specs.Str.Parse.{digits_value}
use Rattle.vec_literal.specs.Tokens.{Token, after, bad_at, is_number_text, is_word_text, is_text_literal, is_blob_literal, is_param_text}
use Rattle.vec_literal.specs.declared.token.TokenSort.TheVariants as sorts
use Rattle.grammar.specs.declared.reader.Reader.{Reader}
use Rattle.grammar.specs.declared.reader.Stop.{Stop}
use Rattle.grammar.specs.declared.reader.Stop.TheVariants as stops
use Rattle.grammar.specs.Grammar.{is_sort, parameter, number_of, parameter_number}
use Rattle.grammar.specs.Parameters.{numbered_from}
use Rattle.vec_base.specs.declared.limits.TheConstants.{MOST_PARAMETERS}
use Rattle.grammar.specs.inner.Reading.{Outcome, next_in}

-- the tokens that the reader has before it, as they stand in the text
abbrev pub spelled_rest : Reader → List Token
spelled_rest r = after r.text.now r.ahead

-- the tokens that the reader has before it
abbrev pub rest_of : Reader → List Token
rest_of r = numbered_from r.greatest (spelled_rest r)

-- What a method returned, seen by view, and the tokens then left are what reading gives, unless memory ran out.
abbrev pub Gives : {X A : Type 0} → (X → A) → Result X Stop → Outcome A → List Token → Type 0
Gives view (Ok x) read left = read ≡ Ok (view x, left)
Gives view (Err stops.Here) read left = read ≡ Err left
Gives view (Err stops.Memory) read left = Unit {0}

-- the first token, or one that fits no place
abbrev pub first_of : List Token → Token
first_of [] = bad_at 0
first_of (t ∷ ts) = t

-- the token is a number that is at most the greatest that fits
abbrev pub is_number_up_to : ℕ → Token → Bool
is_number_up_to greatest t = is_sort sorts.Number t.sort && nat_le (number_of t) greatest

-- the number at hand, or that none that fits is
abbrev pub AtNumber : ℕ → Option ℕ → List Token → Type 0
AtNumber greatest None ts = is_number_up_to greatest (first_of ts) ≡ false
AtNumber greatest (Some n) ts = (is_number_up_to greatest (first_of ts) ≡ true) × (n ≡ number_of (first_of ts)) × (n ≤ greatest)

-- the number of the parameter at hand, or that none that fits is
abbrev pub AtParameter : Option ℕ → List Token → Type 0
AtParameter None ts = next_in (parameter ∷ []) ts ≡ false
AtParameter (Some n) ts = (next_in (parameter ∷ []) ts ≡ true) × (n ≡ parameter_number (first_of ts))

-- the number that a plain `?` gets, where one that fits is left
abbrev pub next_number : Option ℕ → Option ℕ
next_number None = None
next_number (Some greatest) = if nat_lt greatest MOST_PARAMETERS then Some (suc greatest) else None

-- the number of a parameter that the digits write, if they write one that fits
abbrev pub WritesParameter : Option ℕ → List ℕ → Type 0
WritesParameter None digits = (nat_le 1 (digits_value 10 digits) && nat_le (digits_value 10 digits) MOST_PARAMETERS) ≡ false
WritesParameter (Some n) digits = ((nat_le 1 (digits_value 10 digits) && nat_le (digits_value 10 digits) MOST_PARAMETERS) ≡ true) × (n ≡ digits_value 10 digits)

-- the place of the first token, or the text's end
abbrev pub place_of : ℕ → List Token → ℕ
place_of end [] = end
place_of end (t ∷ ts) = t.place

-- numbers, words, text literals and blob literals are spelled as such
abbrev pub is_well_spelled : Token → Bool
is_well_spelled t =
    (not (is_sort sorts.Number t.sort) || is_number_text t.spelling) && (not (is_sort sorts.Word t.sort) || is_word_text t.spelling) &&
    (not (is_sort sorts.TextLit t.sort) || is_text_literal t.spelling) && (not (is_sort sorts.BlobLit t.sort) || is_blob_literal t.spelling)

-- a parameter is spelled as such
abbrev pub is_well_spelled_parameter : Token → Bool
is_well_spelled_parameter t = not (is_sort sorts.Param t.sort) || is_param_text t.spelling

-- Reading a part of a grammar with one token at hand.
use Rattle.std.specs.Prelude.{ℕ, zero, suc, Bool, true, false, not, ◌||◌, ◌&&◌, cond, List, [], ◌∷◌, ◌++◌, length, Option, Some, None, Result, Ok, Err, bytes_eq}
use Rattle.std.specs.List.{list_any, list_all}
use Rattle.vec_literal.specs.Tokens.{Token}
use Rattle.vec_literal.specs.declared.token.TokenSort.{TokenSort}
use Rattle.vec_literal.specs.declared.token.TokenSort.TheVariants as sorts
use Rattle.grammar.specs.Grammar.{is_in_any_case, Class, keyword, sign, name, number, number_after_minus, text_literal, blob_literal, parameter, Part, same_sort, one, seq, alt, opt, many, means, fits, lowered}
use Rattle.vec_base.specs.Words.{is_reserved}

-- what reading a part gives: its value and the tokens left, or the tokens left at the failing one
abbrev pub Outcome : Type 0 → Type 0
Outcome A = Result (A × List Token) (List Token)

infixl 10 ◌>>=◌
abbrev pub ◌>>=◌ : {A B : Type 0} → Outcome A → (A × List Token → Outcome B) → Outcome B
(Ok x) >>= f = f x
(Err e) >>= f = Err e

-- whether the next token fits one of the classes
abbrev pub next_in : List Class → List Token → Bool
next_in cs [] = false
next_in cs (t ∷ ts) = list_any (λ c. fits c t) cs

abbrev pub nullable : {A : Type 0} → Part A → Bool
nullable (one c) = false
nullable (seq p q) = nullable p && nullable q
nullable (alt p q) = nullable p || nullable q
nullable (opt p) = true
nullable (many p) = true
nullable (means f p) = nullable p

-- what a spelling may begin with
abbrev pub firsts : {A : Type 0} → Part A → List Class
firsts (one c) = c ∷ []
firsts (seq p q) = cond (nullable p) (firsts p ++ firsts q) (firsts p)
firsts (alt p q) = firsts p ++ firsts q
firsts (opt p) = firsts p
firsts (many p) = firsts p
firsts (means f p) = firsts p

-- what may follow a whole spelling and still be of the part
abbrev pub nexts : {A : Type 0} → Part A → List Class
nexts (one c) = []
nexts (seq p q) = cond (nullable q) (nexts q ++ nexts p) (nexts q)
nexts (alt p q) = nexts p ++ nexts q
nexts (opt p) = firsts p ++ nexts p
nexts (many p) = firsts p ++ nexts p
nexts (means f p) = nexts p

abbrev pub starts : {A : Type 0} → Part A → List Token → Bool
starts p ts = next_in (firsts p) ts

abbrev pub read_one : Class → List Token → Outcome Token
read_one c [] = Err []
read_one c (t ∷ ts) = cond (fits c t) (Ok (t, ts)) (Err (t ∷ ts))

abbrev pub read_opt : {A : Type 0} → Bool → Outcome A → List Token → Outcome (Option A)
read_opt true r ts = r >>= λ x. Ok (Some x.0, x.1)
read_opt false r ts = Ok (None, ts)

-- at most n times
abbrev pub read_many : {A : Type 0} → (List Token → Bool) → (List Token → Outcome A) → ℕ → List Token → Outcome (List A)
read_many s r zero ts = Ok ([], ts)
read_many s r (suc n) ts = cond (s ts) (r ts >>= λ x. read_many s r n x.1 >>= λ xs. Ok (x.0 ∷ xs.0, xs.1)) (Ok ([], ts))

-- reading with one token at hand
abbrev pub read : {A : Type 0} → Part A → List Token → Outcome A
read (one c) ts = read_one c ts
read (seq p q) ts = read p ts >>= λ x. read q x.1 >>= λ y. Ok ((x.0, y.0), y.1)
read (alt p q) ts = cond (starts p ts) (read p ts) (read q ts)
read (opt p) ts = read_opt (starts p ts) (read p ts) ts
read (many p) ts = read_many (λ us. starts p us) (λ us. read p us) (length ts) ts
read (means f p) ts = read p ts >>= λ x. Ok (f x.0, x.1)

-- the sort of the tokens that fit
abbrev pub sort_for : Class → TokenSort
sort_for (keyword w) = sorts.Word
sort_for (sign m) = sorts.Mark
sort_for name = sorts.Word
sort_for number = sorts.Number
sort_for number_after_minus = sorts.Number
sort_for text_literal = sorts.TextLit
sort_for blob_literal = sorts.BlobLit
sort_for parameter = sorts.Param

-- whether some token may fit both
unfoldable pub overlap : Class → Class → Bool
overlap (keyword a) (keyword b) = is_in_any_case a b
overlap (keyword a) name = not (is_reserved (lowered a))
overlap name (keyword b) = not (is_reserved (lowered b))
overlap (sign a) (sign b) = bytes_eq a b
overlap c d = same_sort (sort_for c) (sort_for d)

-- no token fits a class of the one list and a class of the other
abbrev pub apart : List Class → List Class → Bool
apart cs ds = list_all (λ c. list_all (λ d. not (overlap c d)) ds) cs

-- the next token decides each choice
abbrev pub decides : {A : Type 0} → Part A → Bool
decides (one c) = true
decides (seq p q) = decides p && decides q && apart (nexts p) (firsts q)
decides (alt p q) = decides p && decides q && not (nullable p) && not (nullable q) && apart (firsts p) (firsts q)
decides (opt p) = decides p && not (nullable p)
decides (many p) = decides p && not (nullable p) && apart (nexts p) (firsts p)
decides (means f p) = decides p

-- all of the tokens
abbrev pub ended : {A : Type 0} → Outcome A → Result A (List Token)
ended (Ok (v, [])) = Ok v
ended (Ok (v, t ∷ us)) = Err (t ∷ us)
ended (Err e) = Err e

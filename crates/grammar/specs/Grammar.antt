-- Grammars as data: the forms of their lines, what spells a part, and where a text fails.
use Rattle.std.specs.Prelude.{◌≡◌, ℕ, ℤ, pos, ◌-ℤ◌, codes, ◌-◌, ◌^◌, Bool, true, false, not, ◌&&◌, ◌⊎◌, List, [], ◌∷◌, ◌++◌, length, drop, ◌≤◌, Option, Some, None, map, nat_le, IsTrue, bytes_eq}
use Rattle.std.specs.Char.{to_ascii_lowercase}
use Rattle.std.specs.Str.Parse.{digits_value}
use Rattle.vec_base.specs.Words.{is_reserved}
use Rattle.vec_base.specs.declared.limits.TheConstants.{MOST_NAME_BYTES, MOST_PARAMETERS}
use Rattle.vec_literal.specs.Tokens.{Token}
use Rattle.vec_literal.specs.LiteralValues.{text_value, blob_value}
use Rattle.vec_literal.specs.declared.token.TokenSort.{TokenSort}
use Rattle.vec_literal.specs.declared.token.TokenSort.TheVariants as sorts

-- what a place for one token takes
pub data Class : Type 0 where
  -- the word, in any case
  keyword : List ℕ → Class
  -- the mark
  sign : List ℕ → Class
  -- a word of at most 64 bytes that is not reserved
  name : Class
  -- a number of at most 9,223,372,036,854,775,807
  number : Class
  -- a number of at most 9,223,372,036,854,775,808, as it may follow `-`
  number_after_minus : Class
  text_literal : Class
  blob_literal : Class
  -- `?` with a number from 1 to 999
  parameter : Class

abbrev pub same_sort : TokenSort → TokenSort → Bool
same_sort sorts.Word sorts.Word = true
same_sort sorts.Number sorts.Number = true
same_sort sorts.TextLit sorts.TextLit = true
same_sort sorts.BlobLit sorts.BlobLit = true
same_sort sorts.Param sorts.Param = true
same_sort sorts.Mark sorts.Mark = true
same_sort a b = false

-- the token has the sort
abbrev pub is_sort : TokenSort → Option TokenSort → Bool
is_sort s None = false
is_sort s (Some t) = same_sort s t

-- the number that the token's decimal digits write
abbrev pub number_of : Token → ℕ
number_of t = digits_value 10 t.spelling

-- the number that stands behind a parameter's `?`
abbrev pub parameter_number : Token → ℕ
parameter_number t = digits_value 10 (drop 1 t.spelling)

-- the text that a text literal stands for
abbrev pub text_of : Token → List ℕ
text_of t = text_value t.spelling

abbrev pub lowered : List ℕ → List ℕ
lowered w = map to_ascii_lowercase w

-- the two are one word, but for capitals
abbrev pub is_in_any_case : List ℕ → List ℕ → Bool
is_in_any_case a b = bytes_eq (lowered a) (lowered b)

-- the token's spelling in lower case
abbrev pub lower : Token → List ℕ
lower t = lowered t.spelling

-- whether the token fits the place
unfoldable pub fits : Class → Token → Bool
fits (keyword w) t = is_sort sorts.Word t.sort && is_in_any_case t.spelling w
fits (sign m) t = is_sort sorts.Mark t.sort && bytes_eq t.spelling m
fits name t = is_sort sorts.Word t.sort && nat_le (length t.spelling) MOST_NAME_BYTES && not (is_reserved (lower t))
fits number t = is_sort sorts.Number t.sort && nat_le (number_of t) (2 ^ 63 - 1)
fits number_after_minus t = is_sort sorts.Number t.sort && nat_le (number_of t) (2 ^ 63)
fits text_literal t = is_sort sorts.TextLit t.sort
fits blob_literal t = is_sort sorts.BlobLit t.sort
fits parameter t = is_sort sorts.Param t.sort && nat_le 1 (parameter_number t) && nat_le (parameter_number t) MOST_PARAMETERS

-- The forms of a grammar's lines. A spelling of a Part A stands for a value of A.
pub data Part : Type 0 → Type 1 where
  -- a place for one token
  one : Class → Part Token
  -- the one and then the other
  seq : {A B : Type 0} → Part A → Part B → Part (A × B)
  -- one of the two
  alt : {A : Type 0} → Part A → Part A → Part A
  -- at most once
  opt : {A : Type 0} → Part A → Part (Option A)
  -- any number of times
  many : {A : Type 0} → Part A → Part (List A)
  -- the same spellings, which stand for f of the values
  means : {A B : Type 0} → (A → B) → Part A → Part B

infixr 20 ◌▸◌
-- the one and then the other, of which the second has the value
abbrev pub ◌▸◌ : {A B : Type 0} → Part A → Part B → Part B
p ▸ q = means (λ x. x.1) (seq p q)

infixl 25 ◌◂◌
-- the one and then the other, of which the first has the value
abbrev pub ◌◂◌ : {A B : Type 0} → Part A → Part B → Part A
p ◂ q = means (λ x. x.0) (seq p q)

-- a token, which stands for nothing
abbrev pub a_token : Class → Part (Unit {0})
a_token c = means (λ t. tt) (one c)

-- a word, in any case
abbrev pub a_word : List ℕ → Part (Unit {0})
a_word w = a_token (keyword w)

abbrev pub a_mark : List ℕ → Part (Unit {0})
a_mark m = a_token (sign m)

-- the value that is given, or the default
abbrev pub or_default : {A : Type 0} → A → Option A → A
or_default d None = d
or_default d (Some x) = x

-- p {c p}
abbrev pub parts_with : {A : Type 0} → Class → Part A → Part (List A)
parts_with c p = means (λ x. x.0 ∷ x.1) (seq p (many (a_token c ▸ p)))

-- p {, p}
abbrev pub list_of : {A : Type 0} → Part A → Part (List A)
list_of p = parts_with (sign (codes ",")) p

-- a name, in lower case
abbrev pub a_name : Part (List ℕ)
a_name = means lower (one name)

abbrev pub a_number : Part ℕ
a_number = means number_of (one number)

-- a number as it may follow `-`
abbrev pub a_number_after_minus : Part ℕ
a_number_after_minus = means number_of (one number_after_minus)

-- + Number | - Number | Number
unfoldable pub a_signed_number : Part ℤ
a_signed_number =
    alt (a_mark (codes "+") ▸ means (λ n. pos n) a_number)
    (alt (a_mark (codes "-") ▸ means (λ n. pos 0 -ℤ pos n) a_number_after_minus) (means (λ n. pos n) a_number))

-- a text literal, which stands for its text
abbrev pub a_text : Part (List ℕ)
a_text = means text_of (one text_literal)

-- a text literal, which stands for its place and its text
abbrev pub a_placed_text : Part (ℕ × List ℕ)
a_placed_text = means (λ t. (t.place, text_of t)) (one text_literal)

-- a blob literal, which stands for its bytes
abbrev pub a_blob : Part (List ℕ)
a_blob = means (λ t. blob_value t.spelling) (one blob_literal)

-- a parameter, which stands for its number
abbrev pub a_parameter : Part ℕ
a_parameter = means parameter_number (one parameter)

-- a mark, which stands for its place
abbrev pub a_placed_mark : List ℕ → Part ℕ
a_placed_mark m = means (λ t. t.place) (one (sign m))

-- the list is one of P and then one of Q
pub record Joined (ts : List Token) (P Q : List Token → Type 0) : Type 0 where
  pub front : List Token
  pub rest : List Token
  pub whole : ts ≡ front ++ rest
  pub first : P front
  pub second : Q rest

-- one spelling after the other, for one value after the other
abbrev pub Repeats : {A : Type 0} → (List Token → A → Type 0) → List Token → List A → Type 0
Repeats S ts [] = ts ≡ []
Repeats S ts (v ∷ vs) = Joined ts (λ f. S f v) (λ r. Repeats S r vs)

-- the tokens are a spelling of the part, with the value
abbrev pub Spells : {A : Type 0} → Part A → List Token → A → Type 0
Spells (one c) ts v = (ts ≡ v ∷ []) × IsTrue (fits c v)
Spells (seq p q) ts v = Joined ts (λ f. Spells p f v.0) (λ r. Spells q r v.1)
Spells (alt p q) ts v = Spells p ts v ⊎ Spells q ts v
Spells (opt p) ts None = ts ≡ []
Spells (opt p) ts (Some v) = Spells p ts v
Spells (many p) ts vs = Repeats (Spells p) ts vs
Spells (means {A} {B} f p) ts v = (x : A) × Spells p ts x × (v ≡ f x)

-- the tokens begin the part
abbrev pub Begins : {A : Type 0} → Part A → List Token → Type 0
Begins (one c) ts = (ts ≡ []) ⊎ ((t : Token) × (ts ≡ t ∷ []) × IsTrue (fits c t))
Begins (seq {A} {B} p q) ts = Begins p ts ⊎ Joined ts (λ f. (v : A) × Spells p f v) (Begins q)
Begins (alt p q) ts = Begins p ts ⊎ Begins q ts
Begins (opt p) ts = Begins p ts
Begins (many {A} p) ts = Joined ts (λ f. (vs : List A) × Repeats (Spells p) f vs) (Begins p)
Begins (means f p) ts = Begins p ts

-- The tokens ts are no spelling of the part, and rest is what is left of them from the failing token on: what stands
-- before it is the longest front that begins the part.
pub record FailsAt {A : Type 0} (p : Part A) (ts rest : List Token) : Type 0 where
  pub front : List Token
  pub whole : ts ≡ front ++ rest
  pub begins : Begins p front
  pub longest : (w more : List Token) → ts ≡ w ++ more → Begins p w → length w ≤ length front
  pub none : (v : A) → Spells p ts v → ⊥

-- No front of the tokens is a spelling of the part, and rest is what is left from the failing token on. It is the same
-- as FailsAt, where what stands behind the part is not looked at.
pub record FailsInside {A : Type 0} (p : Part A) (ts rest : List Token) : Type 0 where
  pub front : List Token
  pub whole : ts ≡ front ++ rest
  pub begins : Begins p front
  pub longest : (w more : List Token) → ts ≡ w ++ more → Begins p w → length w ≤ length front
  pub none : (w more : List Token) (v : A) → ts ≡ w ++ more → Spells p w v → ⊥

-- A front of the tokens is a spelling of the part, with the value, and rest is what is left.
pub record SpellsFront {A : Type 0} (p : Part A) (ts : List Token) (v : A) (rest : List Token) : Type 0 where
  pub front : List Token
  pub whole : ts ≡ front ++ rest
  pub spelled : Spells p front v

-- The tokens of a text.
use Rattle.std.specs.Prelude.{◌≡◌, ℕ, zero, suc, ◌+◌, ◌-◌, ◌<◌, ◌≤◌, Bool, true, false, not, ◌||◌, ◌&&◌, cond, if◌then◌else◌, List, [], ◌∷◌, length, take, drop, Option, Some, None, ◌==◌, slice_range, slice_index, codes, bytes_eq, nat_lt, nat_le}
use Rattle.std.specs.List.{list_all, list_any}
use Rattle.std.specs.Option.{option_map, option_map_or}
use Rattle.std.specs.Char.{is_ascii_alphabetic, is_ascii_alphanumeric, is_ascii_digit, is_ascii_hexdigit}
use Rattle.std.specs.Str.{is_utf8}
use Rattle.vec_base.specs.Words.{underscore}
use Rattle.vec_literal.specs.declared.token.TokenSort.{TokenSort}
use Rattle.vec_literal.specs.declared.token.TokenSort.TheVariants as sorts
use Rattle.vec_literal.specs.declared.token.Token.{Token as Found}
use Rattle.vec_literal.specs.declared.token.Lexed.{Lexed}
use Rattle.vec_literal.specs.declared.token.Lexed.TheVariants as lexed

-- space, tab, line feed, form feed, carriage return
abbrev pub is_white : ℕ → Bool
is_white b = b == 32 || b == 9 || b == 10 || b == 12 || b == 13

-- a letter or `_`
abbrev pub is_letter : ℕ → Bool
is_letter b = is_ascii_alphabetic b || b == underscore

abbrev pub is_word_byte : ℕ → Bool
is_word_byte b = is_ascii_alphanumeric b || b == underscore

-- a letter or `_`, then letters, digits and `_`
abbrev pub is_word_text : List ℕ → Bool
is_word_text [] = false
is_word_text (b ∷ bs) = is_letter b && list_all is_word_byte bs

-- one digit or more
abbrev pub is_number_text : List ℕ → Bool
is_number_text [] = false
is_number_text (b ∷ bs) = is_ascii_digit b && list_all is_ascii_digit bs

-- What stands before the quote that ends the bytes, where each quote inside it is doubled and is read as one.
-- The flag says that a quote stands before the bytes of which it is not yet known whether it is doubled.
abbrev pub unquoted : Bool → List ℕ → Option (List ℕ)
unquoted false [] = None
unquoted true [] = Some []
unquoted false (b ∷ bs) = if b == 39 then unquoted true bs else option_map (λ body. b ∷ body) (unquoted false bs)
unquoted true (b ∷ bs) = if b == 39 then option_map (λ body. 39 ∷ body) (unquoted false bs) else None

-- the text that a text literal stands for: what its quotes enclose, with doubled quotes read as one
abbrev pub enclosed : List ℕ → Option (List ℕ)
enclosed [] = None
enclosed (b ∷ bs) = if b == 39 then unquoted false bs else None

-- a quote, UTF-8 in which each quote is doubled, and a quote
abbrev pub is_text_literal : List ℕ → Bool
is_text_literal bs = option_map_or is_utf8 (enclosed bs) false

-- pairs of hexadecimal digits, and a quote at the end
abbrev pub is_hex_to_quote : List ℕ → Bool
is_hex_to_quote [] = false
is_hex_to_quote (b ∷ []) = b == 39
is_hex_to_quote (b ∷ c ∷ bs) = is_ascii_hexdigit b && is_ascii_hexdigit c && is_hex_to_quote bs

-- `x` or `X` and a quote stand at the beginning
abbrev pub begins_blob : List ℕ → Bool
begins_blob [] = false
begins_blob (b ∷ []) = false
begins_blob (b ∷ c ∷ bs) = (b == 120 || b == 88) && c == 39

-- `x` or `X`, a quote, pairs of hexadecimal digits, and a quote
abbrev pub is_blob_literal : List ℕ → Bool
is_blob_literal bs = begins_blob bs && is_hex_to_quote (drop 2 bs)

-- `?`, and digits or none
abbrev pub is_param_text : List ℕ → Bool
is_param_text [] = false
is_param_text (b ∷ bs) = b == 63 && list_all is_ascii_digit bs

abbrev pub marks : List (List ℕ)
marks =
    codes "(" ∷ codes ")" ∷ codes "[" ∷ codes "]" ∷ codes "," ∷ codes ";" ∷ codes "*" ∷ codes "+" ∷ codes "-" ∷
    codes "=" ∷ codes "==" ∷ codes "!=" ∷ codes "<>" ∷ codes "<" ∷ codes "<=" ∷ codes ">" ∷ codes ">=" ∷ []

abbrev pub is_mark_text : List ℕ → Bool
is_mark_text bs = list_any (λ m. bytes_eq bs m) marks

-- the bytes are a spelling of the sort
unfoldable pub is_spelling : TokenSort → List ℕ → Bool
is_spelling sorts.Word bs = is_word_text bs
is_spelling sorts.Number bs = is_number_text bs
is_spelling sorts.TextLit bs = is_text_literal bs
is_spelling sorts.BlobLit bs = is_blob_literal bs
is_spelling sorts.Param bs = is_param_text bs
is_spelling sorts.Mark bs = is_mark_text bs

abbrev pub is_blob_sort : TokenSort → Bool
is_blob_sort sorts.Word = false
is_blob_sort sorts.Number = false
is_blob_sort sorts.TextLit = false
is_blob_sort sorts.BlobLit = true
is_blob_sort sorts.Param = false
is_blob_sort sorts.Mark = false

-- The first n bytes spell a token of the sort. Where `x` or `X` and a quote stand there, that is a blob literal alone.
abbrev pub spells_front : TokenSort → ℕ → List ℕ → Bool
spells_front sort n bytes = is_spelling sort (take n bytes) && (is_blob_sort sort || not (begins_blob bytes))

-- the first n bytes are the longest front that spells a token
pub record Longest (sort : TokenSort) (n : ℕ) (bytes : List ℕ) : Type 0 where
  pub some : 0 < n
  pub inside : n ≤ length bytes
  pub spelled : spells_front sort n bytes ≡ true
  pub longest : (other : TokenSort) (m : ℕ) → n < m → m ≤ length bytes → spells_front other m bytes ≡ true → ⊥

-- no front spells a token
pub record NoneIn (bytes : List ℕ) : Type 0 where
  pub none : (sort : TokenSort) (m : ℕ) → m ≤ length bytes → spells_front sort m bytes ≡ true → ⊥

-- the token stands in the text, and is the longest that begins there
pub record IsLongest (text : List ℕ) (t : Found) : Type 0 where
  pub rising : t.from ≤ t.upto
  pub inside : t.upto ≤ length text
  pub longest : Longest t.sort (t.upto - t.from) (drop t.from text)

-- only white space stands there
pub record IsWhite (text : List ℕ) (from upto : ℕ) : Type 0 where
  pub rising : from ≤ upto
  pub inside : upto ≤ length text
  pub white : (k : ℕ) → from ≤ k → k < upto → is_white (slice_index text k) ≡ true

-- What stands next in the text from a place on: nothing but white space; after white space a byte at which no token
-- begins; or after white space the longest token.
abbrev pub IsNext : List ℕ → ℕ → Lexed → Type 0
IsNext text from lexed.End = IsWhite text from (length text)
IsNext text from (lexed.Bad at) = IsWhite text from at × (at < length text) × (is_white (slice_index text at) ≡ false) × NoneIn (drop at text)
IsNext text from (lexed.Found t) = IsWhite text from t.from × IsLongest text t

-- A token as it is spelled, and its place in the text. A byte at which no token can be read counts as one without a sort.
pub record Token : Type 0 where
  pub sort : Option TokenSort
  pub spelling : List ℕ
  pub place : ℕ

abbrev pub token_of : List ℕ → Found → Token
token_of text t = record { sort = Some t.sort; spelling = slice_range text t.from t.upto; place = t.from }

abbrev pub bad_at : ℕ → Token
bad_at place = record { sort = None; spelling = []; place = place }

-- the sort that the first n bytes spell, if they spell one
abbrev pub sort_of : ℕ → List ℕ → Option TokenSort
sort_of n bytes =
    if spells_front sorts.Word n bytes then Some sorts.Word
    else if spells_front sorts.Number n bytes then Some sorts.Number
    else if spells_front sorts.TextLit n bytes then Some sorts.TextLit
    else if spells_front sorts.BlobLit n bytes then Some sorts.BlobLit
    else if spells_front sorts.Param n bytes then Some sorts.Param
    else if spells_front sorts.Mark n bytes then Some sorts.Mark
    else None

abbrev pub or_shorter : Option TokenSort → ℕ → Option (TokenSort × ℕ) → Option (TokenSort × ℕ)
or_shorter (Some sort) n shorter = Some (sort, n)
or_shorter None n shorter = shorter

-- the longest front of at most n bytes that spells a token: its sort and length
abbrev pub longest_of : ℕ → List ℕ → Option (TokenSort × ℕ)
longest_of zero bytes = None
longest_of (suc n) bytes = or_shorter (sort_of (suc n) bytes) (suc n) (longest_of n bytes)

-- that front and the tokens after it, or a byte at which no token can be read
abbrev pub with_first : ℕ → List ℕ → (ℕ → List Token) → Option (TokenSort × ℕ) → List Token
with_first place bytes others None = bad_at place ∷ []
with_first place bytes others (Some x) = record { sort = Some x.0; spelling = take x.1 bytes; place = place } ∷ others x.1

-- The tokens of bytes that stand in their text from the place on. Each token takes a byte or more, and n is at least the
-- number of bytes.
unfoldable pub tokens_of : ℕ → ℕ → List ℕ → List Token
tokens_of zero place bytes = []
tokens_of (suc n) place [] = []
tokens_of (suc n) place (b ∷ bs) =
    cond (is_white b) (tokens_of n (place + 1) bs)
    (with_first place (b ∷ bs) (λ k. tokens_of n (place + k) (drop k (b ∷ bs))) (longest_of (length (b ∷ bs)) (b ∷ bs)))

-- The tokens of the text from a place on, each the longest that stands there, up to the first byte at which no token
-- can be read.
unfoldable pub tokens : List ℕ → ℕ → List Token
tokens text from = tokens_of (length (drop from text)) from (drop from text)

-- the tokens from one that was read on
abbrev pub after : List ℕ → Lexed → List Token
after text (lexed.Found t) = token_of text t ∷ tokens text t.upto
after text lexed.End = []
after text (lexed.Bad at) = bad_at at ∷ []

-- what was read lies in the text, and a token is spelled as its sort
abbrev pub is_right : List ℕ → Lexed → Bool
is_right text (lexed.Found t) = nat_lt t.from t.upto && nat_le t.upto (length text) && is_spelling t.sort (slice_range text t.from t.upto)
is_right text lexed.End = true
is_right text (lexed.Bad at) = nat_lt at (length text)

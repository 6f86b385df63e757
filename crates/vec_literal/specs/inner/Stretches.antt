-- How far a token reaches in a text: stretches of bytes that pass a test.
use Rattle.std.specs.Prelude.{◌≡◌, ℕ, ◌+◌, ◌<◌, ◌≤◌, Bool, true, false, not, if◌then◌else◌, List, [], ◌∷◌, length, drop, Option, ◌==◌, slice_range, slice_index, MatchOption}
use Rattle.std.specs.List.{list_all, prefix_len}
use Rattle.std.specs.Option.{option_map_or}
use Rattle.std.specs.Char.{is_ascii_digit}
use Rattle.std.specs.Str.{IsUtf8, is_utf8}
use Rattle.vec_literal.specs.declared.token.TokenSort.{TokenSort}
use Rattle.vec_literal.specs.declared.token.TokenSort.TheVariants as sorts
use Rattle.vec_literal.specs.declared.token.Token.{Token as Found}
use Rattle.vec_literal.specs.Tokens.{is_letter, begins_blob, is_mark_text, unquoted, IsLongest}

-- the only sort of which a token can begin there: its first byte tells it, and two bytes tell a blob
abbrev pub sort_at : List ℕ → TokenSort
sort_at [] = sorts.Mark
sort_at (b ∷ bs) =
    if begins_blob (b ∷ bs) then sorts.BlobLit
    else if is_letter b then sorts.Word
    else if is_ascii_digit b then sorts.Number
    else if b == 39 then sorts.TextLit
    else if b == 63 then sorts.Param
    else sorts.Mark

-- a mark of one byte
abbrev pub is_single : ℕ → Bool
is_single b = is_mark_text (b ∷ [])

-- a mark of two bytes
abbrev pub is_pair : ℕ → ℕ → Bool
is_pair b c = is_mark_text (b ∷ c ∷ [])

-- any byte but a quote
abbrev pub is_plain : ℕ → Bool
is_plain b = not (b == 39)

-- what follows the first quote of a text literal: UTF-8 in which each quote is doubled, and a quote
abbrev pub is_quoted_text : List ℕ → Bool
is_quoted_text bs = option_map_or is_utf8 (unquoted false bs) false

-- the place of the first byte from a place on that fails the test, or the text's end
abbrev pub run_end : (ℕ → Bool) → List ℕ → ℕ → ℕ
run_end test text from = from + prefix_len test (drop from text)

-- The bytes from a place up to another pass the test, and no longer stretch that ends at the limit or before it does.
pub record EndsAt (test : List ℕ → Bool) (text : List ℕ) (from limit upto : ℕ) : Type 0 where
  pub rising : from ≤ upto
  pub inside : upto ≤ limit
  pub passed : test (slice_range text from upto) ≡ true
  pub longest : (m : ℕ) → upto < m → m ≤ limit → test (slice_range text from m) ≡ true → ⊥

-- no stretch of bytes from the place that ends at the limit or before it passes the test
pub record EndsNowhere (test : List ℕ → Bool) (text : List ℕ) (from limit : ℕ) : Type 0 where
  pub none : (m : ℕ) → from ≤ m → m ≤ limit → test (slice_range text from m) ≡ true → ⊥

-- where the longest stretch from the place that passes the test ends, if one does
abbrev pub LongestEnd : (List ℕ → Bool) → List ℕ → ℕ → ℕ → Option ℕ → Type 0
LongestEnd test text from limit end = MatchOption end (EndsNowhere test text from limit) (EndsAt test text from limit)

-- UTF-8 without a quote, from the place up to a quote
pub record IsPart (text : List ℕ) (from quote : ℕ) : Type 0 where
  pub rising : from ≤ quote
  pub inside : quote < length text
  pub plain : list_all is_plain (slice_range text from quote) ≡ true
  pub utf8 : IsUtf8 (slice_range text from quote)
  pub quoted : slice_index text quote ≡ 39

-- the token begins at the place, and is the longest that does
pub record IsTokenAt (text : List ℕ) (place : ℕ) (t : Found) : Type 0 where
  pub begins : t.from ≡ place
  pub token : IsLongest text t

-- The literal of an int8 vector: numbers from -128 to 127 in brackets, as `[1, -2]`.
use Rattle.std.specs.Prelude.{◌≡◌, ◌⊎◌, ℕ, ◌<◌, ◌≤◌, length, take, get_or, ℤ, pos, negsuc, ◌-ℤ◌, ◌≤ℤ◌, Bool, true, false, not, ◌&&◌, ◌||◌, ◌==◌, List, [], ◌∷◌, ◌++◌, map, All}
use Rattle.std.specs.Char.{is_ascii_digit}
use Rattle.std.specs.Int.{w8, cast_unsigned}
use Rattle.std.specs.List.{list_all}
use Rattle.std.specs.Str.Parse.{digits_value}

-- the bytes `[` and `]`, between which the elements stand
abbrev pub opening : ℕ
opening = 91

abbrev pub closing : ℕ
closing = 93

-- the greatest element; the least is one further from zero
abbrev pub greatest : ℕ
greatest = 127

-- white space of JSON: space, tab, line feed, carriage return
abbrev pub is_space : ℕ → Bool
is_space b = b == 32 || b == 9 || b == 10 || b == 13

-- nothing but white space
abbrev pub IsBlank : List ℕ → Type 0
IsBlank bytes = list_all is_space bytes ≡ true

-- decimal digits without a leading zero, but for `0` itself
abbrev pub is_digits : List ℕ → Bool
is_digits [] = false
is_digits (d ∷ []) = is_ascii_digit d
is_digits (d ∷ e ∷ ds) = is_ascii_digit d && not (d == 48) && list_all is_ascii_digit (e ∷ ds)

-- an optional `-` and digits; `-0` is 0
abbrev pub SpellsNumber : List ℕ → ℤ → Type 0
SpellsNumber bytes z =
    (digits : List ℕ) × (is_digits digits ≡ true) × (((bytes ≡ digits) × (z ≡ pos (digits_value 10 digits))) ⊎ ((bytes ≡ 45 ∷ digits) × (z ≡ pos 0 -ℤ pos (digits_value 10 digits))))

-- a number with white space before and after it
pub record SpellsElement (bytes : List ℕ) (z : ℤ) : Type 0 where
  pub before : List ℕ
  pub number : List ℕ
  pub after : List ℕ
  pub whole : bytes ≡ before ++ (number ++ after)
  pub blank_before : IsBlank before
  pub spelled : SpellsNumber number z
  pub blank_after : IsBlank after

-- one element, or several that commas separate
abbrev pub SpellsElements : List ℕ → List ℤ → Type 0
SpellsElements bytes [] = ⊥
SpellsElements bytes (z ∷ []) = SpellsElement bytes z
SpellsElements bytes (z ∷ y ∷ zs) =
    (first rest : List ℕ) × (bytes ≡ first ++ 44 ∷ rest) × SpellsElement first z × SpellsElements rest (y ∷ zs)

-- what stands between the brackets: nothing but white space, or elements
abbrev pub SpellsInside : List ℕ → List ℤ → Type 0
SpellsInside bytes zs = ((zs ≡ []) × IsBlank bytes) ⊎ SpellsElements bytes zs

-- the brackets and what stands in them, with white space before and after
pub record SpellsList (text : List ℕ) (zs : List ℤ) : Type 0 where
  pub before : List ℕ
  pub inside : List ℕ
  pub after : List ℕ
  pub whole : text ≡ before ++ opening ∷ (inside ++ closing ∷ after)
  pub blank_before : IsBlank before
  pub elements : SpellsInside inside zs
  pub blank_after : IsBlank after

-- the number is one of a byte's from -128 to 127
abbrev pub IsElement : ℤ → Type 0
IsElement z = (negsuc greatest ≤ℤ z) × (z ≤ℤ pos greatest)

-- The text spells the vector: its elements fit, and each byte of the vector stands for one.
pub record SpellsInt8 (text vector : List ℕ) : Type 0 where
  pub elements : List ℤ
  pub list : SpellsList text elements
  pub fit : All IsElement elements
  pub bytes : vector ≡ map (cast_unsigned w8) elements

-- the text is a list of integers, of any size
abbrev pub IsInForm : List ℕ → Type 0
IsInForm text = (elements : List ℤ) × SpellsList text elements

-- some more bytes, or none, make of the text one in the form
abbrev pub CanGoOn : List ℕ → Type 0
CanGoOn text = (more : List ℕ) × IsInForm (text ++ more)

-- the length of the longest beginning of the text that can go on
pub record IsLongestStart (text : List ℕ) (n : ℕ) : Type 0 where
  pub within : n ≤ length text
  pub goes_on : CanGoOn (take n text)
  pub longest : (m : ℕ) → m ≤ length text → CanGoOn (take m text) → m ≤ n

-- the index of the first element that is outside -128 to 127
pub record IsFirstMisfit (elements : List ℤ) (index : ℕ) : Type 0 where
  pub within : index < length elements
  pub misfit : IsElement (get_or elements index (pos 0)) → ⊥
  pub first : All IsElement (take index elements)

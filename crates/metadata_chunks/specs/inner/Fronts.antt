-- Texts by their lengths and first bytes.
use Rattle.std.specs.Prelude.{◌≡◌, ℕ, zero, suc, ◌≤◌, true, List, [], ◌∷◌, length, take, Option, None, Some}
use Rattle.std.specs.Str.{is_utf8}
use Rattle.shadow_records.specs.declared.kinds.TheConstants.{TEXT_VIEW_BYTES}

-- the first bytes of a text, filled up with zeros
abbrev pub front_of : ℕ → List ℕ → List ℕ
front_of zero text = []
front_of (suc count) [] = 0 ∷ front_of count []
front_of (suc count) (byte ∷ text) = byte ∷ front_of count text

-- the text of a cell
abbrev pub text_in : ℕ → List ℕ → Option (List ℕ) → List ℕ
text_in len front None = take len front
text_in len front (Some text) = text

pub record IsTextCell (len : ℕ) (front : List ℕ) (whole : Option (List ℕ)) : Type 0 where
  pub first_bytes : front ≡ front_of TEXT_VIEW_BYTES (text_in len front whole)
  pub count : len ≡ length (text_in len front whole)
  pub utf8 : is_utf8 (text_in len front whole) ≡ true
  pub short : whole ≡ None → len ≤ TEXT_VIEW_BYTES

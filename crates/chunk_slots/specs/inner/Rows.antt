-- The rowids of slots, of which those of free slots are not seen.
use Rattle.std.specs.Prelude.{ℤ, Bool, true, false, List, [], ◌∷◌, Option, None, Some}

-- the rowid of a slot, if the slot is used
abbrev pub row_of : Bool → ℤ → Option ℤ
row_of true rowid = Some rowid
row_of false rowid = None

abbrev pub rows_of : List Bool → List ℤ → List (Option ℤ)
rows_of [] rowids = []
rows_of (bit ∷ bits) [] = []
rows_of (bit ∷ bits) (rowid ∷ rowids) = row_of bit rowid ∷ rows_of bits rowids

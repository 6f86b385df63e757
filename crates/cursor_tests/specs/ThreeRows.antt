-- The rows of the source that the tests scan.
use Rattle.std.specs.Prelude.{ℤ, pos, List, [], ◌∷◌}
use Rattle.vec_base.specs.declared.value.Value.TheVariants.{Int}
use Rattle.row_model.specs.declared.row.Row.{Row}

-- a row with one value
abbrev pub with_number : ℤ → ℤ → Row
with_number rowid number = record { rowid = rowid; values = Int number ∷ [] }

abbrev pub three_rows : List Row
three_rows = with_number (pos 2) (pos 20) ∷ with_number (pos 5) (pos 50) ∷ with_number (pos 9) (pos 90) ∷ []

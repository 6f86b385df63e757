-- Lists with an element.
use Rattle.std.proofs.Common.{◌≡◌, ◌<◌, true, List, [], ◌∷◌, length, refl, arith}
use Rattle.row_model.specs.WellFormed.{is_filled}

pub filled_by : {A : Type 0} (xs : List A) → 0 < length xs → is_filled xs ≡ true
filled_by [] h = absurd (omega arith)
filled_by (x ∷ xs) h = refl

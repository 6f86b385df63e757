-- Rows at their distances as hits, and the rows of hits.
use Rattle.std.specs.Prelude.{ℤ, pos, if◌then◌else◌, List, [], ◌∷◌}
use Rattle.std.specs.Ordering.{int_eq}
use Rattle.topk_merge.specs.declared.hit.Hit.{Hit}
use Rattle.row_model.specs.declared.row.Row.{Row}
use Rattle.row_model.specs.Answer.{Near, Target, distance_at}

-- the row's distance from the target, with its rowid
abbrev pub hit_to : Target → Row → Hit
hit_to target row = record { distance = distance_at target.place target.query row; rowid = row.rowid }

abbrev pub hit_of : Near → Hit
hit_of near = record { distance = near.distance; rowid = near.row.rowid }

-- the row of the rowid; an empty row stands for one that is not there
abbrev pub row_with : ℤ → List Row → Row
row_with rowid [] = record { rowid = pos 0; values = [] }
row_with rowid (row ∷ rows) = if int_eq row.rowid rowid then row else row_with rowid rows

-- the row of a hit at the hit's distance
abbrev pub near_at : List Row → Hit → Near
near_at rows hit = record { distance = hit.distance; row = row_with hit.rowid rows }

use Rattle.std.proofs.Common.{◌≡◌, ◌+◌, ◌∷◌, ◌++◌, drop}
use Rattle.row_model.specs.ColumnNames.{key_place, other_places}
use Rattle.plain_engine.proofs.items.all_places.Given as goal

abbrev pub invariant-loop-index : goal.invariant-loop-index
invariant-loop-index l = key_place 1 l.columns ∷ other_places 1 l.columns ≡ l.places.items ++ other_places (l.index + 1) (drop l.index l.columns)

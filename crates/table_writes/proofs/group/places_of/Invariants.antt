use Rattle.std.proofs.Common.{◌≡◌, map, take}
use Rattle.row_model.specs.ColumnNames.{place_of}
use Rattle.table_writes.proofs.group.places_of.Given as goal

abbrev pub invariant-loop-name : goal.invariant-loop-name
invariant-loop-name l = l.places.items ≡ map (place_of l.columns) (take l.name-index l.names)

use Rattle.std.proofs.Common.{◌≡◌, take, drop, []}
use Rattle.record_bodies.specs.inner.InTurn.{behind_items, source_of, values_in_turn}
use Rattle.record_bodies.proofs.sources.RowRecords.values.Given as goal

abbrev pub invariant-loop-at : goal.invariant-loop-at
invariant-loop-at l = behind_items l.values (values_in_turn (source_of l.self) (take l.at l.columns) l.rest (drop l.at l.columns)) ≡ values_in_turn (source_of l.self) [] l.partition l.columns

use Rattle.std.proofs.Common.{◌≡◌, ◌≤◌, take}
use Rattle.row_model.specs.Schemas.{count_of, has_role}
use Rattle.record_bodies.proofs.reading.alike_before.Given as goal

abbrev pub invariant-loop-column : goal.invariant-loop-column
invariant-loop-column l = (l.count ≡ count_of (has_role l.role) (take l.column-index l.columns)) × (l.count ≤ l.column-index)

use Rattle.std.proofs.Common.{◌≡◌}
use Rattle.shadow_records.specs.Cells.{laid}
use Rattle.table_bodies.specs.Units.{unit}
use Rattle.table_bodies.proofs.unit_record.UnitRecord.units.Given as goal

abbrev pub invariant-loop-at : goal.invariant-loop-at
invariant-loop-at l = l.body ≡ laid (unit l.self l.table.table l.chunk) l.at

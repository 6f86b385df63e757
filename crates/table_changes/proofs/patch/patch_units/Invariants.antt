use Rattle.std.proofs.Common.{Some, take}
use Rattle.shadow_records.specs.Cells.{laid}
use Rattle.table_bodies.specs.Units.{unit, unit_count}
use Rattle.table_changes.specs.inner.Steps.{RewritesOne}
use Rattle.table_changes.proofs.PatchLaws.{written}
use Rattle.table_changes.proofs.patch.patch_units.Given as goal

abbrev pub invariant-loop-at : goal.invariant-loop-at
invariant-loop-at l =
    RewritesOne l.key (Some (laid (unit l.kept l.older.table l.chunk) (unit_count l.kept l.newer.table.schema.chunk_size)))
    (Some (laid (written (unit l.kept l.older.table l.chunk) (unit l.kept l.newer.table l.chunk) (take l.at-index l.units)) (unit_count l.kept l.newer.table.schema.chunk_size)))
    l.initial.changes l.changes

use Rattle.std.proofs.Common.{take}
use Rattle.std.specs.List.{AllByRecursion}
use Rattle.row_model.specs.RepresentableStatements.{AreRepresentable}
use Rattle.table_writes.proofs.group.rows_representable.Given as goal

abbrev pub invariant-loop-row : goal.invariant-loop-row
invariant-loop-row l = AllByRecursion AreRepresentable (take l.row-index l.rows)

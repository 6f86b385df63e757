use Rattle.std.proofs.Common.{take}
use Rattle.std.specs.List.{AllByRecursion}
use Rattle.row_model.specs.RepresentableStatements.{IsRepresentableAssign}
use Rattle.table_writes.proofs.sets.sets_representable.Given as goal

abbrev pub invariant-loop-set : goal.invariant-loop-set
invariant-loop-set l = AllByRecursion IsRepresentableAssign (take l.set-index l.sets)

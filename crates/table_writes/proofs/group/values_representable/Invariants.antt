use Rattle.std.proofs.Common.{take}
use Rattle.std.specs.List.{AllByRecursion}
use Rattle.vec_base.specs.Representable.{IsRepresentable}
use Rattle.table_writes.proofs.group.values_representable.Given as goal

abbrev pub invariant-loop-value : goal.invariant-loop-value
invariant-loop-value l = AllByRecursion IsRepresentable (take l.value-index l.values)

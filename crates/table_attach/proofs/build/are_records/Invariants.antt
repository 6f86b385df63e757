use Rattle.std.proofs.Common.{take}
use Rattle.std.specs.List.{AllByRecursion}
use Rattle.table_attach.specs.inner.Filling.{IsRecordOf}
use Rattle.table_attach.proofs.build.are_records.Given as goal

abbrev pub invariant-loop-kept : goal.invariant-loop-kept
invariant-loop-kept l = AllByRecursion (IsRecordOf l.number l.table.table) (take l.kept-index l.records)

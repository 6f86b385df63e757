use Rattle.std.proofs.Common.{◌≡◌, take}
use Rattle.row_model.specs.Change.{blank}
use Rattle.table_writes.proofs.group.blank.Given as goal

abbrev pub invariant-loop-column : goal.invariant-loop-column
invariant-loop-column l = l.values.items ≡ blank (take l._column-index l.columns)

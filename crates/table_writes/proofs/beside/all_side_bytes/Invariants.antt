use Rattle.std.proofs.Common.{◌≡◌, take}
use Rattle.std.specs.Prelude.{sum_by}
use Rattle.row_model.specs.Values.{side_bytes}
use Rattle.table_writes.specs.inner.Capped.{capped}
use Rattle.table_writes.proofs.beside.all_side_bytes.Given as goal

abbrev pub invariant-loop-value : goal.invariant-loop-value
invariant-loop-value l = l.total ≡ capped (sum_by side_bytes (take l.value-index l.values))

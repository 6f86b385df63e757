use Rattle.std.proofs.Common.{◌≡◌, take}
use Rattle.std.specs.Prelude.{sum_by}
use Rattle.row_model.specs.Values.{vector_bytes}
use Rattle.table_writes.specs.inner.Capped.{capped}
use Rattle.table_writes.proofs.beside.all_vector_bytes.Given as goal

abbrev pub invariant-loop-value : goal.invariant-loop-value
invariant-loop-value l = l.total ≡ capped (sum_by vector_bytes (take l.value-index l.values))

use Rattle.std.proofs.Common.{◌≡◌, replicate}
use Rattle.metadata_chunks.proofs.cells.filled.Given as goal

abbrev pub invariant-loop : goal.invariant-loop
invariant-loop g l = l.cells ≡ replicate l.counter l.value

use Rattle.std.proofs.Common.{◌≡◌, take}
use Rattle.slot_alloc.proofs.chunk.Partition.of.Given as goal

abbrev pub invariant-loop-value : goal.invariant-loop-value
invariant-loop-value l = l.copies ≡ take l.value-index l.value-items

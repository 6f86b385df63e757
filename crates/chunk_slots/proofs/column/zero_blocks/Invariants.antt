use Rattle.std.proofs.Common.{◌≡◌, replicate}
use Rattle.chunk_slots.proofs.column.zero_blocks.Given as goal

abbrev pub invariant-loop : goal.invariant-loop
invariant-loop l = l.blocks ≡ replicate l.counter (replicate l.len 0)

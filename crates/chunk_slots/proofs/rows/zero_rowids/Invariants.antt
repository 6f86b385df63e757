use Rattle.std.proofs.Common.{◌≡◌, length}
use Rattle.chunk_slots.proofs.rows.zero_rowids.Given as goal

abbrev pub invariant-loop : goal.invariant-loop
invariant-loop l = length l.rowids ≡ l.counter

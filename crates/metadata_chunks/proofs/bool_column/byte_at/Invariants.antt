use Rattle.std.proofs.Common.{◌≡◌, ◌<◌, ◌+◌, ◌^◌, false, get_or}
use Rattle.shadow_records.specs.Cells.{of_bits}
use Rattle.metadata_chunks.proofs.bool_column.byte_at.Given as goal

abbrev pub invariant-loop-bit : goal.invariant-loop-bit
invariant-loop-bit l = (l.byte ≡ of_bits (λ bit. get_or l.cells (l.first + bit) false) l.bit) × (l.byte < 2 ^ l.bit)

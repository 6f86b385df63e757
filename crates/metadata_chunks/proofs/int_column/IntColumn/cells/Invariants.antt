use Rattle.std.proofs.Common.{◌≡◌, pos, get_or}
use Rattle.shadow_records.specs.Cells.{laid, number_bytes}
use Rattle.metadata_chunks.proofs.int_column.IntColumn.cells.Given as goal

abbrev pub invariant-loop-slot : goal.invariant-loop-slot
invariant-loop-slot l = l.bytes ≡ laid (λ slot. number_bytes (get_or l.self-inside.cells slot (pos 0))) l.slot

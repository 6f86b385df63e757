use Rattle.std.proofs.Common.{◌≡◌, ◌<◌, ◌+◌, ◌*◌, ◌^◌}
use Rattle.shadow_records.specs.Cells.{of_bits}
use Rattle.shadow_records.specs.PlacedTables.{row_at}
use Rattle.table_bodies.specs.inner.Parts.{bit_of}
use Rattle.table_bodies.proofs.unit_record.UnitRecord.bits.Given as goal

abbrev pub invariant-loop-bit : goal.invariant-loop-bit
invariant-loop-bit l = (l.byte ≡ of_bits (λ bit. bit_of l.self (row_at l.table.table.rows l.chunk (8 * l.at + bit))) l.bit) × (l.byte < 2 ^ l.bit)

use Rattle.std.proofs.Common.{◌≡◌, ◌+◌, ◌*◌, false, [], ◌∷◌, get_or}
use Rattle.shadow_records.specs.Cells.{laid, of_bits}
use Rattle.metadata_chunks.proofs.bool_column.BoolColumn.cells.Given as goal

abbrev pub invariant-loop-byte : goal.invariant-loop-byte
invariant-loop-byte l = l.bytes ≡ laid (λ byte. of_bits (λ bit. get_or l.self-inside.cells (8 * byte + bit) false) 8 ∷ []) l.byte

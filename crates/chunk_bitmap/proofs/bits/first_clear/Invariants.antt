use Rattle.std.proofs.Common.{◌≡◌, ℕ, ◌<◌, ◌*◌, get_or, true, false}
use Rattle.chunk_bitmap.specs.BitsOfBytes.{bits_of}
use Rattle.chunk_bitmap.proofs.bits.first_clear.Given as goal

abbrev pub invariant-loop-index : goal.invariant-loop-index
invariant-loop-index l = (j : ℕ) → j < 8 * l.index → get_or (bits_of l.bytes) j false ≡ true

use Rattle.std.proofs.Common.{◌≡◌, ℕ, ◌<◌, ◌≤◌, ◌*◌, ◌-◌, length, get_or, false}
use Rattle.chunk_bitmap.specs.BitsOfBytes.{bits_of}
use Rattle.chunk_bitmap.proofs.bits.next_set.Given as goal

abbrev pub invariant-loop-found : goal.invariant-loop-found
invariant-loop-found l = record {
  from : l.from ≤ l.place;
  within : l.place ≤ 8 * length l.bytes;
  clear : (j : ℕ) → l.from ≤ j → j < l.place → get_or (bits_of l.bytes) j false ≡ false;
}

abbrev pub decreases-loop-found : goal.decreases-loop-found
decreases-loop-found l = 8 * length l.bytes - l.place

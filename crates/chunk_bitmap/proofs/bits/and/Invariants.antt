use Rattle.std.proofs.Common.{◌≡◌, ◌<◌, ◌≤◌, ℕ, length, get_or}
use Rattle.std.specs.Int.RustNames.{bit_and}
use Rattle.chunk_bitmap.proofs.bits.and.Given as goal

abbrev pub invariant-loop-place : goal.invariant-loop-place
invariant-loop-place l = record {
  same_length : length l.bytes ≡ length l.fn.bytes;
  done : (j : ℕ) → j < l.place → get_or l.bytes j 0 ≡ bit_and (get_or l.fn.bytes j 0) (get_or l.other j 0);
  left : (j : ℕ) → l.place ≤ j → get_or l.bytes j 0 ≡ get_or l.fn.bytes j 0;
}

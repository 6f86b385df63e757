-- What is still to be written makes the whole.
use Rattle.std.proofs.Common.{length}
use Rattle.hex.specs.Hex.{encode_upper}
use Rattle.vec_text.proofs.hexadecimal.put_hex.Given as goal

abbrev pub invariant-loop-left : goal.invariant-loop-left
invariant-loop-left g l = (end : _) → g.W.Takes.adds (encode_upper l.left) l.to end → g.W.Takes.adds (encode_upper l.fn.bytes) l.fn.to end

abbrev pub decreases-loop-left : goal.decreases-loop-left
decreases-loop-left g l = length l.left

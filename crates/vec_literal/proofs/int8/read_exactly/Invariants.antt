-- The reader has read the text so far.
use Rattle.std.proofs.Common.{take}
use Rattle.vec_literal.proofs.Int8Laws.{Reads}
use Rattle.vec_literal.proofs.int8.read_exactly.Given as goal

abbrev pub invariant-loop-place : goal.invariant-loop-place
invariant-loop-place l = Reads (take l.place l.text) l.reader

use Rattle.std.proofs.Common.{sym, arith}
use Rattle.chunk_bitmap.specs.BitsOfBytes.{bits_of}
use Rattle.chunk_bitmap.proofs.BitLaws.{length_bits, next_in_byte, next_set_none, none_in_byte}
use Rattle.chunk_bitmap.proofs.bits.next_set.Goals as goal

pub returns-in-Some : goal.returns-in-Some
returns-in-Some c =
    let place = c.loop-found.place in
    let at = rw c.from-in-loop-found.ensures at c.in-Some.ensures in
    sym (next_in_byte c.args.bytes.now c.args.from place c.in-Some.found c.loop-found.invariant.from (omega arith) at.2 at.1 at.0 at.3 c.loop-found.invariant.clear)

pub loop-found-preserved : goal.loop-found-preserved
loop-found-preserved c = record {
  from = omega (arith, c.loop-found.invariant.from);
  within = omega arith;
  clear = none_in_byte c.args.bytes.now c.args.from c.loop-found.place (omega arith) (rw c.from-in-loop-found.ensures at c.in_default.ensures) c.loop-found.invariant.clear;
}

pub returns : goal.returns
returns c = sym (next_set_none (bits_of c.args.bytes.now) c.args.from (λ j le l. c.loop-found.invariant.clear j le (omega (arith, l, length_bits c.args.bytes.now))))

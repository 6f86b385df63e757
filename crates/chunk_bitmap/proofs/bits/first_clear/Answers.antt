use Rattle.std.proofs.Common.{rules, Some, ap, ◌∙◌, ◌≡◌, ◌+◌, ◌*◌, ◌<◌, get_or, sym, arith}
use Rattle.std.specs.Int.{w8, trailing_ones}
use Rattle.std.proofs.lemmas.Nat.Bits.{bit_at-trailing_ones}
use Rattle.chunk_bitmap.specs.BitsOfBytes.{bits_of}
use Rattle.chunk_bitmap.proofs.BitLaws.{length_bits, first_clear_at, full_more, none_clear}
use Rattle.chunk_bitmap.proofs.bits.first_clear.Goals as goal

pub returns-then-byte : goal.returns-then-byte
returns-then-byte c =
    let bytes = c.args.bytes.now in
    let i = c.loop-index.index in
    let b = get_or bytes i 0 in
    let small : b + 1 < 256 = search rules in
    let h = bit_at-trailing_ones w8 b small in
    let found = sym (first_clear_at bytes i (trailing_ones w8 b) h.0 (omega arith) c.loop-index.invariant h.1 h.2) in
    ap (λ t. Some (8 * i + t)) c.trailing_ones.ensures ∙ found

pub loop-index-preserved : goal.loop-index-preserved
loop-index-preserved c =
    let full : get_or c.args.bytes.now c.loop-index.index 0 ≡ 255 = search rules in
    full_more c.args.bytes.now c.loop-index.index (omega arith) full c.loop-index.invariant

pub returns : goal.returns
returns c = sym (none_clear (bits_of c.args.bytes.now) (λ j l. c.loop-index.invariant j (omega (arith, l, length_bits c.args.bytes.now))))

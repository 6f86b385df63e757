use Rattle.std.proofs.Common.{rules, ◌+◌, ◌<◌, get_or, take, sym, ap, ◌∙◌, arith}
use Rattle.std.specs.Int.RustNames.{count_ones}
use Rattle.std.specs.List.{count_by}
use Rattle.std.proofs.lemmas.List.{take_more, length-take-le}
use Rattle.std.proofs.lemmas.List.Sums.{count_by-le-length}
use Rattle.std.proofs.lemmas.Nat.{ones-le}
use Rattle.chunk_bitmap.specs.BitsOfBytes.{bits_of}
use Rattle.chunk_bitmap.proofs.BitLaws.{length_bits, count_more}
use Rattle.chunk_bitmap.proofs.bits.count.Goals as goal

pub overflow_add-count : goal.overflow_add-count
overflow_add-count c =
    let bytes = c.args.bytes.now in
    let i = c.loop-byte.byte-index in
    let small : get_or bytes i 0 < 256 = search rules in
    omega (arith, c.loop-byte.invariant, count_by-le-length (λ b. b) (bits_of (take i bytes)), length_bits (take i bytes), length-take-le i bytes (omega arith), ones-le 8 (get_or bytes i 0) small)

pub loop-byte-preserved : goal.loop-byte-preserved
loop-byte-preserved c =
    let bytes = c.args.bytes.now in
    let i = c.loop-byte.byte-index in
    let small : get_or bytes i 0 < 256 = search rules in
    ap (λ n. n + count_ones (get_or bytes i 0)) c.loop-byte.invariant
    ∙ sym (count_more (take i bytes) (get_or bytes i 0) small)
    ∙ ap (λ xs. count_by (λ b. b) (bits_of xs)) (sym (take_more bytes i 0 (omega arith)))

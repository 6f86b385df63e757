use Rattle.std.proofs.Common.{◌≡◌, ◌<◌, ◌∙◌, ap, sym, length, arith}
use Rattle.std.specs.Int.RustNames.{bit_and}
use Rattle.std.specs.Simd.Lanes.{zip2}
use Rattle.std.proofs.lemmas.Grind.{same_number_lists}
use Rattle.std.proofs.lemmas.Simd.{get_or-zip2, length-zip2}
use Rattle.chunk_bitmap.specs.BitsOfBytes.{bits_of}
use Rattle.chunk_bitmap.proofs.BitLaws.{bits-and}
use Rattle.chunk_bitmap.proofs.bits.and.Goals as goal

pub returns : goal.returns
returns c =
    let xs = c.args.bytes.now in
    let ys = c.args.other.now in
    let n = length-zip2 bit_and xs ys c.requires in
    let whole : c.loop-place.bytes ≡ zip2 bit_and xs ys = same_number_lists c.loop-place.bytes (zip2 bit_and xs ys) (c.loop-place.invariant.same_length ∙ sym n)
    (λ j l.
    let within : j < length xs = omega (arith, l, c.loop-place.invariant.same_length) in
    c.loop-place.invariant.done j (omega (arith, within)) ∙ sym (get_or-zip2 bit_and xs ys j 0 0 0 within (omega (arith, within, c.requires)))) in
    ap bits_of whole ∙ bits-and xs ys c.requires

use Rattle.std.proofs.Common.{◌*◌, ◌/◌, ◌%◌, ◌<◌, ◌==◌, length, get_or, ap, arith, false}
use Rattle.std.specs.Int.{w8}
use Rattle.std.proofs.lemmas.Nat.Bits.{bit_at_clear_same, bit_at_clear_other}
use Rattle.chunk_bitmap.proofs.BitLaws.{length_bits, changed}
use Rattle.chunk_bitmap.proofs.bits.clear.Goals as goal

pub returns : goal.returns
returns c =
    let bytes = c.args.bytes.now in
    let i = c.args.place in
    let b = get_or bytes (i / 8) 0 in
    let lt : i < 8 * length bytes = omega (arith, c.requires, length_bits bytes) in
    let low : i % 8 < 8 = omega arith in
    changed bytes i _ false lt (ap (λ n. n == 1) (bit_at_clear_same w8 b (i % 8) low)) (λ j within apart. bit_at_clear_other w8 b (i % 8) low j within apart)

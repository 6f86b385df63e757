use Rattle.std.proofs.Common.{◌*◌, ◌/◌, ◌%◌, ◌<◌, ◌==◌, length, get_or, sym, ap, ◌∙◌, arith, false}
use Rattle.std.proofs.lemmas.Nat.Bits.{shr_and_one}
use Rattle.chunk_bitmap.proofs.BitLaws.{length_bits, get_or-bits}
use Rattle.chunk_bitmap.proofs.bits.is_set.Goals as goal

pub returns : goal.returns
returns c =
    let bytes = c.args.bytes.now in
    let lt : c.args.place < 8 * length bytes = omega (arith, c.requires, length_bits bytes) in
    ap (λ n. n == 1) (shr_and_one (get_or bytes (c.args.place / 8) 0) (c.args.place % 8)) ∙ sym (get_or-bits bytes c.args.place false lt)

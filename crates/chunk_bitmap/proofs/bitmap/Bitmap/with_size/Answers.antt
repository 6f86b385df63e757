use Rattle.std.proofs.Common.{rules, ◌≡◌, ◌*◌, ◌/◌, ap, ◌∙◌, arith, replicate, false}
use Rattle.chunk_bitmap.specs.BitsOfBytes.{bits_of}
use Rattle.chunk_bitmap.proofs.BitLaws.{bits-zero}
use Rattle.chunk_bitmap.proofs.bitmap.Bitmap.with_size.Goals as goal

pub returns : goal.returns
returns c =
    let n = c.args.size / 8 in
    let items : c.in_ok-from_elem.field-0.items ≡ replicate n 0 = search rules in
    let size : 8 * n ≡ c.args.size = omega (arith, c.requires.eights) in
    ap bits_of items ∙ bits-zero n ∙ ap (λ m. replicate m false) size

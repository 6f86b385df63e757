use Rattle.std.proofs.Common.{◌≡◌, length, ap, sym, ◌∙◌, arith}
use Rattle.chunk_bitmap.specs.BitsOfBytes.{bits_of}
use Rattle.chunk_bitmap.proofs.BitLaws.{length_bits}
use Rattle.chunk_bitmap.proofs.bitmap.Bitmap.and.Goals as goal

pub and-requires : goal.and-requires
and-requires c =
    let a = length_bits c.self.inside.bytes.items in
    let b = length_bits c.other.inside.bytes.items in
    let m : length (bits_of c.self.inside.bytes.items) ≡ length (bits_of c.other.inside.bytes.items) = ap length c.self.view_is ∙ c.requires ∙ sym (ap length c.other.view_is) in
    ap length c.as_mut_slice.ensures.value ∙ omega (arith, a, b, m) ∙ sym (ap length c.as_slice.ensures.value)

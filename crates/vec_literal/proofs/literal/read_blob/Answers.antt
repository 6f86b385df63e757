use Rattle.std.proofs.Common.{refl}
use Rattle.vec_literal.proofs.Enclosed.{blob_readable, blob_spelled}
use Rattle.vec_literal.proofs.literal.read_blob.Goals as goal

pub returns-in-Ok : goal.returns-in-Ok
returns-in-Ok c = blob_spelled c.args.literal.now c.in-Ok.bytes c.requires c.in-Ok.ensures.exact.value

pub unreachable-requires : goal.unreachable-requires
unreachable-requires c =
    blob_readable c.args.literal.now c.read_bits.result c.in-Err-Place.field-0 c.requires c.read_bits.ensures.exact _ c.in-Err-Place.is c.in-Err-Place.field-0-is refl

pub unreachable-requires-in-Err-Range : goal.unreachable-requires-in-Err-Range
unreachable-requires-in-Err-Range c =
    blob_readable c.args.literal.now c.read_bits.result c.in-Err-Range.field-0 c.requires c.read_bits.ensures.exact _ c.in-Err-Range.is c.in-Err-Range.field-0-is refl

pub unreachable-requires-in-Err-OddHex : goal.unreachable-requires-in-Err-OddHex
unreachable-requires-in-Err-OddHex c =
    blob_readable c.args.literal.now c.read_bits.result c.in-Err-OddHex.field-0 c.requires c.read_bits.ensures.exact _ c.in-Err-OddHex.is c.in-Err-OddHex.field-0-is refl

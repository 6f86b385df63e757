-- What `hex` answers, told of what the text spells.
use Rattle.std.proofs.Common.{Ok, Err, inr, refl}
use Rattle.vec_literal.proofs.BitsLaws.{answered, decoded_spelled, other_told}
use Rattle.vec_literal.proofs.bits.read_bits.Goals as goal

pub returns-in-Ok : goal.returns-in-Ok
returns-in-Ok c =
    record { exact = answered c.args.text.now (Ok c.from_vec.result) (rw c.from_vec.ensures (decoded_spelled c.args.text.now _ c.in-Ok.ensures.ok)) tt }

pub returns-in-Err-InvalidHexCharacter : goal.returns-in-Err-InvalidHexCharacter
returns-in-Err-InvalidHexCharacter c =
    record { exact = answered c.args.text.now _ tt (inr (other_told c.args.text.now _ _ c.in-Err-InvalidHexCharacter.ensures.err c.in-Err-InvalidHexCharacter.field-0-is refl)) }

pub returns-in-Err-OddLength : goal.returns-in-Err-OddLength
returns-in-Err-OddLength c =
    record { exact = answered c.args.text.now _ tt (inr (other_told c.args.text.now _ _ c.in-Err-OddLength.ensures.err c.in-Err-OddLength.field-0-is refl)) }

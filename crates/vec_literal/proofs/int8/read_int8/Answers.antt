-- A vector that was read in the usual form is the text's.
use Rattle.vec_literal.proofs.Int8Usual.{usual_answers}
use Rattle.vec_literal.proofs.int8.read_int8.Goals as goal

pub returns-in-Some : goal.returns-in-Some
returns-in-Some c =
    record { exact = usual_answers c.args.text.now c.in-Some.vector.items c.from_vec.result (rw c.in-Some.is at c.in_ok-vector.ensures) c.from_vec.ensures }

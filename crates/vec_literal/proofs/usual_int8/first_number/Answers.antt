use Rattle.std.proofs.Common.{rules}
use Rattle.vec_literal.proofs.Int8Usual.{some_plain, some_minus}
use Rattle.vec_literal.proofs.usual_int8.first_number.Goals as goal

pub returns-then-text-eq45 : goal.returns-then-text-eq45
returns-then-text-eq45 c = some_minus c.args.text.now c.digits_at.result (search rules) c.if-text-eq45.true c.digits_at.ensures

use Rattle.std.proofs.Common.{◌+◌, ◌-◌, drop}
use Rattle.vec_literal.proofs.Int8Usual.{some_in_front}
use Rattle.vec_literal.proofs.usual_int8.element_at.Goals as goal

pub returns-then-text-from-ge-WINDOW : goal.returns-then-text-from-ge-WINDOW
returns-then-text-from-ge-WINDOW c = some_in_front (c.args.from + 6 - c.args.from) (drop c.args.from c.args.text.now) c.first_element.result c.first_element.ensures

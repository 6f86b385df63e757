use Rattle.std.proofs.Common.{arith}
use Rattle.grammar.proofs.Places.{number_utf8, parse_fails}
use Rattle.grammar.proofs.numbers.decimal_value.Goals as goal

pub returns-in-Err-parse : goal.returns-in-Err-parse
returns-in-Err-parse c = parse_fails c.args.greatest c.args.digits.now c.in-Ok.text.now (omega (arith, c.ranges.greatest)) (let h = c.in-Ok.ensures.cases in h.0) c.requires (let h = c.in-Err-parse.ensures.value in h.0)

pub returns-in-Err : goal.returns-in-Err
returns-in-Err c = absurd (let h = c.in-Err.ensures.cases in h.0 (number_utf8 c.args.digits.now c.requires))

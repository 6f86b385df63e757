use Rattle.std.proofs.Common.{rules, sym, arith}
use Rattle.http_requests.proofs.NumberLaws.{numeral_text, text_too_large}
use Rattle.http_requests.proofs.number.number_in.Goals as goal

pub returns-in_default-clause-exact : goal.returns-in_default-clause-exact
returns-in_default-clause-exact c =
    absurd (c.in_default.ensures.cases.0 (numeral_text c.args.digits.now (sym c.if-not-has_digits.ensures)))

pub returns-in-Err-clause-exact : goal.returns-in-Err-clause-exact
returns-in-Err-clause-exact c =
    text_too_large c.args.low c.args.high c.args.digits.now c.in-Ok.text.now (search rules) (omega (arith, c.ranges.high.fits)) (sym c.if-not-has_digits.ensures)
    (let h = c.in-Err.ensures.value in h.0)

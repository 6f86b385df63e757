use Rattle.std.proofs.Common.{sym, arith}
use Rattle.vec_words.proofs.NumberLaws.{too_large}
use Rattle.vec_words.proofs.number.number_within.Goals as goal

pub returns-in-Err-clause-exact : goal.returns-in-Err-clause-exact
returns-in-Err-clause-exact c =
    too_large c.args.low c.args.high c.args.text.now (omega (arith, c.ranges.high.fits)) (sym c.if-not-has_digits.ensures) (let h = c.in-Err.ensures.value in h.0)

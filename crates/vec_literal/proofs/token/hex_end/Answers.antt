use Rattle.std.proofs.Common.{arith}
use Rattle.vec_literal.proofs.Runs.{hex_ends, hex_nowhere}
use Rattle.vec_literal.proofs.token.hex_end.Goals as goal
use Rattle.vec_literal.proofs.token.hex_end.Goals.{else-quote-from-eq0-via-then-quote-from-eq0+then-quote-text+else-text-quote-eq39, else-quote-from-eq0-via-then-quote-from-eq0+else-quote-text, else-quote-from-eq0-via-else-quote-from-eq0}

pub returns-then-text-quote-eq39 : goal.returns-then-text-quote-eq39
returns-then-text-quote-eq39 c = hex_ends c.args.text.now c.args.from c.hex_digits_end-quote.result c.requires c.hex_digits_end-quote.ensures.run c.if-quote-from-eq0.true c.if-quote-text.true c.if-text-quote-eq39.true

pub returns-else-quote-from-eq0 : goal.returns-else-quote-from-eq0
returns-else-quote-from-eq0 c = hex_nowhere c.args.text.now c.args.from c.hex_digits_end-quote.result c.requires c.hex_digits_end-quote.ensures.run
    (λ even inside quoted. elim c.else-quote-from-eq0.branch [
      | else-quote-from-eq0-via-then-quote-from-eq0+then-quote-text+else-text-quote-eq39 w ↦ w.if-text-quote-eq39.false quoted
      | else-quote-from-eq0-via-then-quote-from-eq0+else-quote-text w ↦ omega arith
      | else-quote-from-eq0-via-else-quote-from-eq0 w ↦ w.if-quote-from-eq0.false even
    ])

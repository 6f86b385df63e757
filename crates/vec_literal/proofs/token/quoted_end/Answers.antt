use Rattle.std.proofs.Common.{arith}
use Rattle.vec_literal.proofs.Quoted.{read_more, read_last}
use Rattle.vec_literal.proofs.token.quoted_end.Goals as goal
use Rattle.vec_literal.proofs.token.quoted_end.Goals.{then-quote-text-via-then-quote-text, then-quote-text-via-else-quote-text+then-text-quote-ne39}

pub loop-quote-preserved : goal.loop-quote-preserved
loop-quote-preserved c = read_more c.args.text.now c.args.from c.loop-quote.start c.in-Some.quote c.loop-quote.end c.loop-quote.invariant c.in-Some.ensures (omega (arith, c.in-Some.ensures.inside)) c.if-text-quote-ne39.false

pub returns-then-quote-text : goal.returns-then-quote-text
returns-then-quote-text c = read_last c.args.text.now c.args.from c.loop-quote.start c.in-Some.quote c.loop-quote.end c.loop-quote.invariant c.in-Some.ensures
    (λ inside double. elim c.then-quote-text.branch [
      | then-quote-text-via-then-quote-text w ↦ omega arith
      | then-quote-text-via-else-quote-text+then-text-quote-ne39 w ↦ w.if-text-quote-ne39.true double
    ])

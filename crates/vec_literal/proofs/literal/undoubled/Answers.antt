use Rattle.std.proofs.Common.{arith}
use Rattle.vec_literal.proofs.Enclosed.{part_taken, rest_taken, still_inside}
use Rattle.vec_literal.proofs.literal.undoubled.Goals as goal

pub returns-then-quote-left : goal.returns-then-quote-left
returns-then-quote-left c =
    rest_taken c.loop-left.bytes.items _ c.loop-left.left.now _ c.before_quote-quote.result c.before_quote-quote.ensures.run (omega (arith, c.before_quote-quote.ensures.inside))
    c.in_ok-extend_from_slice.ensures.items c.loop-left.invariant.whole

pub loop-left-preserved : goal.loop-left-preserved
loop-left-preserved c = record {
  inside = still_inside c.loop-left.left.now c.args.quoted.now _ _ c.loop-left.invariant.inside;
  whole = part_taken c.loop-left.bytes.items _ c.loop-left.left.now _ c.before_quote-quote.result c.min.result c.before_quote-quote.ensures.run (omega arith) c.min.ensures
      c.in_ok-extend_from_slice-2.ensures.items c.loop-left.invariant.whole;
}

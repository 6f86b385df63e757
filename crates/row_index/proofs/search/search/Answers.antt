use Rattle.std.proofs.Common.{◌+◌, ◌-◌, ◌/◌, ◌<◌, length, sym, ◌∙◌, arith}
use Rattle.row_index.proofs.SearchLaws.{less_from_test, less_upto, greater_from}
use Rattle.row_index.proofs.search.search.Goals as goal

pub returns-then-is_lt-clause-place : goal.returns-then-is_lt-clause-place
returns-then-is_lt-clause-place g c =
    let xs = c.args.items.now in
    let compared = g.K.Key.compared c.args.key.now in
    let less = sym c.compare.ensures ∙ less_from_test c.compare.result (sym c.is_lt.ensures ∙ c.if-is_lt.true) in
    let front = less_upto compared xs c.in-Some.last c.get.result.now c.requires (omega arith) c.get.ensures less in
    ((λ k d low high. front k d low (omega arith)), (λ k d low high. absurd (omega arith)))

pub loop-low-preserved-in-Less : goal.loop-low-preserved-in-Less
loop-low-preserved-in-Less g c =
    let xs = c.args.items.now in
    let compared = g.K.Key.compared c.args.key.now in
    let middle = c.loop-low.low + (c.loop-low.high - c.loop-low.low) / 2 in
    let within : middle < length xs = omega (arith, c.loop-low.invariant.in_range) in
    record {
      in_range = (omega arith, omega arith);
      below = less_upto compared xs middle c.get-in-loop-low.result.now c.requires within c.get-in-loop-low.ensures (sym c.compare-in-loop-low.ensures ∙ c.in-Less.is);
      above = c.loop-low.invariant.above;
    }

pub loop-low-preserved : goal.loop-low-preserved
loop-low-preserved g c =
    let xs = c.args.items.now in
    let compared = g.K.Key.compared c.args.key.now in
    let middle = c.loop-low.low + (c.loop-low.high - c.loop-low.low) / 2 in
    let within : middle < length xs = omega (arith, c.loop-low.invariant.in_range) in
    record {
      in_range = (omega arith, omega arith);
      below = c.loop-low.invariant.below;
      above = greater_from compared xs middle c.get-in-loop-low.result.now c.requires within c.get-in-loop-low.ensures (sym c.compare-in-loop-low.ensures ∙ c.in-Greater.is);
    }

use Rattle.std.proofs.Common.{rules, ◌≡◌, ◌+◌, ◌≤◌, ◌∙◌, sym, arith, None}
use Rattle.table_answers.proofs.CountLaws.{all_counted, next_counted, none_counted}
use Rattle.table_answers.proofs.scan.count_upto.Goals as goal

pub loop-count-init : goal.loop-count-init
loop-count-init g c = record { counted = none_counted (g.V.RowSource.rows c.args.source.now); within = omega arith }

pub returns-then-is_none : goal.returns-then-is_none
returns-then-is_none g c =
    let none : c.next_after-after.result ≡ None = search rules in
    all_counted (g.V.RowSource.rows c.args.source.now) c.loop-count.after c.loop-count.count c.args.most (sym c.next_after-after.ensures.next ∙ none) c.loop-count.invariant.counted c.loop-count.invariant.within

pub loop-count-preserved : goal.loop-count-preserved
loop-count-preserved g c =
    let some : c.next_after-after.result ≡ None → ⊥ = search rules in
    let less : c.loop-count.count + 1 ≤ c.args.most = search (rules, arith) in
    record {
      counted = next_counted (g.V.RowSource.rows c.args.source.now) c.loop-count.after c.next_after-after.result c.loop-count.count c.next_after-after.ensures.rising c.next_after-after.ensures.next some c.loop-count.invariant.counted;
      within = less;
    }

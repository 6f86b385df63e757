use Rattle.std.proofs.Common.{rules, ◌≡◌, ◌+◌, drop, ◌∷◌}
use Rattle.table_attach.proofs.StepLaws.{drop_next, fails_later, fills_next}
use Rattle.table_attach.proofs.fill.fill.Goals as goal

pub loop-kept-preserved : goal.loop-kept-preserved
loop-kept-preserved c =
    let k = c.loop-kept.kept-index in
    let all = c.args.records.now in
    let r = c.kept-item.result in
    let next : drop k all ≡ r ∷ drop (k + 1) all = drop_next all k r r (search rules) (search rules) in
    record {
      filled = λ new fills. c.loop-kept.invariant.filled new (fills_next c.args.number all c.loop-kept.table.table c.take.new.table.table new (drop k all) (drop (k + 1) all) r next c.in_ok-take.ensures.taken fills);
      failed = λ fails. c.loop-kept.invariant.failed (fails_later c.args.number all c.loop-kept.table.table c.take.new.table.table (drop k all) (drop (k + 1) all) r next c.in_ok-take.ensures.taken fails);
    }

use Rattle.std.proofs.Common.{Bool, ◌∙◌}
use Rattle.topk_merge.specs.Hits.{is_before}
use Rattle.row_model.specs.declared.row.Row.{Row}
use Rattle.row_model.specs.Answer.{counts, near_to}
use Rattle.plain_engine.specs.inner.RowHits.{hit_to}
use Rattle.plain_engine.proofs.NearLaws.{offered-more}
use Rattle.plain_engine.proofs.nearest.best_hits.Goals as goal

pub loop-row-preserved : goal.loop-row-preserved
loop-row-preserved c =
    let row = c.row-item.result in
    let such : Row → Bool = λ r. counts c.args.columns.now c.args.terms.now (near_to c.args.target.now r) in
    let more = offered-more is_before c.args.k (hit_to c.args.target.now) such c.args.rows.now c.loop-row.row-index row c.loop-row-test.true in (
      c.offer_row.ensures.room ∙ c.loop-row.invariant.0,
      rw (more, ← c.row-item.is, ← c.loop-row.invariant.1) (rw c.loop-row.invariant.0 at c.offer_row.ensures.hits),
    )

use Rattle.std.proofs.Common.{◌∙◌, sym}
use Rattle.knn_plan.proofs.LevelLaws.{rest_met}
use Rattle.nearest_query.proofs.terms.rest_met.Goals as goal

pub returns-then-not-by_row : goal.returns-then-not-by_row
returns-then-not-by_row c p there =
    sym (rest_met c.args.table.now.table.schema.columns p.row c.args.plan.now.select.where_terms (sym c.requires.ready.1.plan_for.by_row ∙ (sym c.requires.by_row ∙ c.if-not-by_row.true)))

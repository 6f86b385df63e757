use Rattle.std.proofs.Common.{◌∙◌, sym}
use Rattle.knn_plan.proofs.LevelLaws.{bounds_met}
use Rattle.nearest_query.proofs.terms.bounds_met.Goals as goal

pub returns-then-not-by_distance : goal.returns-then-not-by_distance
returns-then-not-by_distance c columns for =
    sym (bounds_met columns c.args.distance c.args.plan.now.select.where_terms (sym for.by_distance ∙ (sym c.requires.by_distance ∙ c.if-not-by_distance.true)))

use Rattle.std.proofs.Common.{◌≡◌, List, drop, map}
use Rattle.std.specs.List.{list_all}
use Rattle.row_model.specs.declared.schema.Column.{Column}
use Rattle.knn_plan.specs.Levels.{meets_bound}
use Rattle.knn_plan.specs.PlannedColumns.{term_column}
use Rattle.nearest_query.proofs.terms.distance_terms_met.Given as goal

abbrev pub invariant-loop-at : goal.invariant-loop-at
invariant-loop-at l = (columns : List Column) → l.plan.terms ≡ map (term_column columns) l.plan.select.where_terms → list_all (meets_bound columns l.distance) (drop l.at l.plan.select.where_terms) ≡ list_all (meets_bound columns l.distance) l.plan.select.where_terms

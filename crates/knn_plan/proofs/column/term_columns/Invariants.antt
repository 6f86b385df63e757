use Rattle.std.proofs.Common.{◌≡◌, map, take}
use Rattle.knn_plan.specs.PlannedColumns.{term_column}
use Rattle.knn_plan.proofs.column.term_columns.Given as goal

abbrev pub invariant-loop-term : goal.invariant-loop-term
invariant-loop-term l = l.planned.items ≡ map (term_column l.columns) (take l.term-index l.terms)

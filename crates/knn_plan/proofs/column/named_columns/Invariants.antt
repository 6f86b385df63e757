use Rattle.std.proofs.Common.{◌≡◌, map, take}
use Rattle.row_model.specs.ColumnNames.{place_of}
use Rattle.knn_plan.specs.PlannedColumns.{planned_column}
use Rattle.knn_plan.proofs.column.named_columns.Given as goal

abbrev pub invariant-loop-name : goal.invariant-loop-name
invariant-loop-name l = l.planned.items ≡ map (planned_column l.columns) (map (place_of l.columns) (take l.name-index l.names))

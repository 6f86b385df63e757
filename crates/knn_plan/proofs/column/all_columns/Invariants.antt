use Rattle.std.proofs.Common.{◌≡◌, ◌≤◌, ◌+◌, ◌∷◌, ◌++◌, drop, length, map}
use Rattle.row_model.specs.ColumnNames.{key_place, other_places}
use Rattle.knn_plan.specs.PlannedColumns.{planned_column}
use Rattle.knn_plan.proofs.column.all_columns.Given as goal

abbrev pub invariant-loop-index : goal.invariant-loop-index
invariant-loop-index l = record {
  rest : map (planned_column l.columns) (key_place 1 l.columns ∷ other_places 1 l.columns) ≡ l.planned.items ++ map (planned_column l.columns) (other_places (l.index + 1) (drop l.index l.columns));
  few : length l.planned.items ≤ l.index + 1;
}

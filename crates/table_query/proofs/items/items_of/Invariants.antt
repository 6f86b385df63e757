use Rattle.std.proofs.Common.{◌≡◌, map, take}
use Rattle.std.specs.List.{count_by}
use Rattle.vec_base.specs.Counts.{summed}
use Rattle.row_model.specs.Answer.{item}
use Rattle.row_model.specs.ColumnNames.{is_of}
use Rattle.row_model.specs.Schemas.{is_vector}
use Rattle.knn_plan.specs.declared.column.PlannedColumn.{PlannedColumn}
use Rattle.table_query.specs.Items.{near_at}
use Rattle.table_query.proofs.items.items_of.Given as goal

abbrev pub invariant-loop-column : goal.invariant-loop-column
invariant-loop-column l = record {
  items : l.values.items ≡ map (λ (c : PlannedColumn). item (near_at l.distance l.view.placed.row) c.place) (take l.column-index l.columns);
  reads : l.steps.reads ≡ summed l.fn.steps.reads (count_by (λ (c : PlannedColumn). is_of is_vector c.place) (take l.column-index l.columns));
  pieces : l.steps.pieces ≡ l.fn.steps.pieces;
}

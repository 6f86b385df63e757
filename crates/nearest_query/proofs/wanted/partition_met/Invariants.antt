use Rattle.std.proofs.Common.{◌≡◌, ℕ, drop, Some}
use Rattle.std.specs.List.{list_all}
use Rattle.row_model.specs.Schemas.{is_partition}
use Rattle.knn_plan.specs.Levels.{meets_on}
use Rattle.shadow_records.specs.PlacedTables.{PlacedRow, row_at}
use Rattle.table_version.specs.Inserting.{partition_in}
use Rattle.nearest_query.proofs.wanted.partition_met.Given as goal

abbrev pub invariant-loop-at : goal.invariant-loop-at
invariant-loop-at l =
    let columns = l.table.table.schema.columns in
    (p : PlacedRow) (c s : ℕ) → row_at l.table.table.rows c s ≡ Some p → l.values ≡ partition_in columns p → list_all (meets_on is_partition columns p.row) (drop l.at l.plan.select.where_terms) ≡ list_all (meets_on is_partition columns p.row) l.plan.select.where_terms

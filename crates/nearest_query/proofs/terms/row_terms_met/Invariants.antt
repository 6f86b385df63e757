use Rattle.std.proofs.Common.{◌≡◌, drop, Some}
use Rattle.std.specs.List.{list_all}
use Rattle.knn_plan.specs.Levels.{meets_rest}
use Rattle.shadow_records.specs.PlacedTables.{PlacedRow, row_of}
use Rattle.nearest_query.proofs.terms.row_terms_met.Given as goal

abbrev pub invariant-loop-at : goal.invariant-loop-at
invariant-loop-at l = (p : PlacedRow) → row_of l.table.table.rows l.rowid ≡ Some p → list_all (meets_rest l.table.table.schema.columns p.row) (drop l.at l.plan.select.where_terms) ≡ list_all (meets_rest l.table.table.schema.columns p.row) l.plan.select.where_terms

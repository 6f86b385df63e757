use Rattle.std.proofs.Common.{◌≡◌, ℕ, drop, Some, false, length}
use Rattle.std.specs.Prelude.{slice_index_or, ◌&&◌}
use Rattle.std.specs.List.{list_all}
use Rattle.row_model.specs.Schemas.{is_metadata}
use Rattle.knn_plan.specs.Levels.{meets_on}
use Rattle.shadow_records.specs.PlacedTables.{PlacedRow, row_at}
use Rattle.nearest_query.proofs.terms.filter_all.Given as goal

abbrev pub invariant-loop-at : goal.invariant-loop-at
invariant-loop-at l = record {
  size : length l.keep ≡ l.table.table.schema.chunk_size;
  cleared : (s : ℕ) → slice_index_or l.initial.keep s false ≡ false → slice_index_or l.keep s false ≡ false;
  passed : (s : ℕ) (p : PlacedRow) → row_at l.table.table.rows l.chunk s ≡ Some p → (slice_index_or l.keep s false && list_all (meets_on is_metadata l.table.table.schema.columns p.row) (drop l.at l.plan.select.where_terms)) ≡ (slice_index_or l.initial.keep s false && list_all (meets_on is_metadata l.table.table.schema.columns p.row) l.plan.select.where_terms);
}

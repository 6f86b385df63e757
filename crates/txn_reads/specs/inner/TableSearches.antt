-- What the search of a SELECT with a MATCH counts, told by the chunks of a table.
use Rattle.std.specs.Prelude.{ℕ, ◌+◌, ◌≤◌, min, length}
use Rattle.vec_base.specs.declared.limits.TheConstants.{LAST_COUNT}
use Rattle.vec_base.specs.declared.steps.Steps.{Steps}
use Rattle.nearest_query.specs.Searches.{wanted_chunks}
use Rattle.row_model.specs.declared.statement.Select.{Select}
use Rattle.shadow_records.specs.PlacedTables.{PlacedTable}
use Rattle.table_answers.specs.Reads.{most_reads}

-- The reads rise by at most those of the answer. The pieces rise by the smaller of the number of workers and that of the chunks whose partition
-- values meet the terms, or up to the last number.
pub record CountsSearch (table : PlacedTable) (select : Select) (workers : ℕ) (before after : Steps) : Type 0 where
  pub reads : after.reads ≤ before.reads + most_reads table select
  pub pieces : min (before.pieces + min workers (length (wanted_chunks table select.where_terms))) LAST_COUNT ≤ after.pieces
  pub most : after.pieces ≤ before.pieces + min workers (length (wanted_chunks table select.where_terms))

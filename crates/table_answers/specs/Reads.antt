-- How many vectors an answer reads.
use Rattle.std.specs.Prelude.{ℕ, ◌+◌, ◌*◌, length}
use Rattle.row_model.specs.Answer.{answer}
use Rattle.row_model.specs.ColumnNames.{item_places}
use Rattle.row_model.specs.declared.statement.Select.{Select}
use Rattle.nearest_query.specs.Searches.{read_rows}
use Rattle.shadow_records.specs.PlacedTables.{PlacedTable, plain}
use Rattle.table_query.specs.Items.{vector_count}

-- the vectors of a row that is answered
abbrev pub row_reads : PlacedTable → Select → ℕ
row_reads table select = vector_count (item_places table.schema.columns select.items)

-- of a SELECT with a MATCH: one of each row whose distance is asked for, and those of each row that is answered
abbrev pub most_reads : PlacedTable → Select → ℕ
most_reads table select = length (read_rows table select.where_terms) + length (answer (plain table) select) * row_reads table select

-- The rows that a scan by a plan answers, with their rowids.
use Rattle.std.specs.Prelude.{List, map}
use Rattle.row_model.specs.Answer.{at_zero, items_of}
use Rattle.row_model.specs.ColumnNames.{item_places}
use Rattle.row_model.specs.Values.{met}
use Rattle.row_model.specs.declared.row.Row.{Row}
use Rattle.row_model.specs.declared.schema.Column.{Column}
use Rattle.row_model.specs.declared.statement.Items.{Items}
use Rattle.knn_plan.specs.Plans.{Planned}
use Rattle.shadow_records.specs.PlacedTables.{PlacedTable, plain_rows}

-- the row's items under its rowid
abbrev pub answered_row : List Column → Items → Row → Row
answered_row columns items row = record { rowid = row.rowid; values = items_of (item_places columns items) (at_zero row) }

-- the items of each row that meets all terms
abbrev pub scan_rows : Planned → PlacedTable → List Row
scan_rows plan table =
    map (answered_row table.schema.columns plan.select.items) (met table.schema.columns plan.select.where_terms (plain_rows table.rows))

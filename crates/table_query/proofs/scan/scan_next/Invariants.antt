use Rattle.std.proofs.Common.{◌≡◌, length}
use Rattle.shadow_records.specs.PlacedTables.{plain_rows}
use Rattle.table_query.specs.Met.{next_met}
use Rattle.table_query.proofs.ScanLaws.{above}
use Rattle.table_query.proofs.scan.scan_next.Given as goal

abbrev pub invariant-loop-rowid : goal.invariant-loop-rowid
invariant-loop-rowid l =
    next_met l.table.table.schema.columns l.plan.select.where_terms l.at (plain_rows l.table.table.rows) ≡ next_met l.table.table.schema.columns l.plan.select.where_terms l.fn.after (plain_rows l.table.table.rows)

abbrev pub decreases-loop-rowid : goal.decreases-loop-rowid
decreases-loop-rowid l = length (above l.at l.table.table.rows)

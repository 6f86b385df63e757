use Rattle.std.proofs.Common.{length}
use Rattle.row_model.specs.Values.{met}
use Rattle.shadow_records.specs.PlacedTables.{plain_rows}
use Rattle.table_writes.proofs.FoundLaws.{IsScanned, left_of}
use Rattle.table_writes.proofs.found.scanned.Given as goal

abbrev pub invariant-loop-rowid : goal.invariant-loop-rowid
invariant-loop-rowid l = IsScanned l.table.table.schema.columns l.plan.select.where_terms (plain_rows l.table.table.rows) l.rowids l.after

abbrev pub decreases-loop-rowid : goal.decreases-loop-rowid
decreases-loop-rowid l = length (left_of l.after (met l.table.table.schema.columns l.plan.select.where_terms (plain_rows l.table.table.rows)))

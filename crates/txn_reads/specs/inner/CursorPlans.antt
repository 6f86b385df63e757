-- A plan that a cursor may be opened for.
use Rattle.std.specs.Prelude.{◌≡◌, ℕ, ◌+◌, ◌++◌, List, [], None, length}
use Rattle.knn_plan.specs.Plans.{IsPlanFor, Planned}
use Rattle.row_model.specs.Limits.{over_cursor_numbers, over_cursors}
use Rattle.row_model.specs.RefusalOrder.{first}
use Rattle.row_model.specs.declared.request.Shape.{Shape}
use Rattle.row_model.specs.declared.request.Shape.TheVariants.{Nearest, Point, Scan}
use Rattle.row_model.specs.declared.row.Row.{Row}
use Rattle.shadow_records.specs.PlacedTables.{PlacedTable}
use Rattle.table_rows.specs.ScanRows.{scan_rows}
use Rattle.table_version.specs.Versions.{VersionState}
use Rattle.txn_reads.specs.SeenTables.{IsSeen}
use Rattle.txn_sessions.specs.Seen.{session_at}
use Rattle.txn_sessions.specs.declared.machine.Machine.{Machine}

-- The plan is for the table that its SELECT names, which has the number, and there is room for one more cursor.
pub record IsPrepared (machine : Machine) (at : ℕ) (number : ℕ) (plan : Planned) : Type 0 where
  pub version : VersionState
  pub seen : IsSeen machine at plan.select.table number version
  pub planned : IsPlanFor version.table.schema.columns plan
  pub room : first (over_cursors (length (session_at machine at).cursors + 1) ++ over_cursor_numbers ((session_at machine at).last_cursor + 1)) ≡ None

-- over what the cursor of a plan goes: none where its rows are kept
abbrev pub rows_by : Shape → Planned → PlacedTable → List Row
rows_by Nearest plan table = []
rows_by Point plan table = scan_rows plan table
rows_by Scan plan table = scan_rows plan table

use Rattle.std.proofs.Common.{List as Seq, map, take, ap}
use Rattle.row_model.specs.declared.row.Row.{Row as RowOf}
use Rattle.snapshot_cursor.proofs.ScanLaws.{all_rows}
use Rattle.snapshot_cursor.proofs.cursor.Cursor.open_scan.Goals as goal

pub returns : goal.returns
returns c rows = ap (λ (l : Seq RowOf). take c.args.limit (map (λ (row : RowOf). row.values) l)) (all_rows rows)

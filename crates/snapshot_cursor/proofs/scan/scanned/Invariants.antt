use Rattle.std.proofs.Common.{◌≡◌, take, drop}
use Rattle.snapshot_cursor.specs.Left.{scan_left}
use Rattle.snapshot_cursor.proofs.scan.scanned.Given as goal

abbrev pub invariant-loop : goal.invariant-loop
invariant-loop g l = record {
  place : scan_left l.place (g.V.RowSource.rows l.view) ≡ drop l.counter (scan_left l.initial.place (g.V.RowSource.rows l.view));
  rows : l.rows ≡ take l.counter (scan_left l.initial.place (g.V.RowSource.rows l.view));
}

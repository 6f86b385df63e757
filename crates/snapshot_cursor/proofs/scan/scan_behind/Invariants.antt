use Rattle.std.proofs.Common.{◌≡◌, drop}
use Rattle.snapshot_cursor.specs.Left.{scan_left}
use Rattle.snapshot_cursor.proofs.scan.scan_behind.Given as goal

abbrev pub invariant-loop : goal.invariant-loop
invariant-loop g l = scan_left l.place (g.V.RowSource.rows l.view) ≡ drop l.counter (scan_left l.initial.place (g.V.RowSource.rows l.view))

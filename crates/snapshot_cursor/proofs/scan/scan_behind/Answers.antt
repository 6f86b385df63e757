use Rattle.std.proofs.Common.{◌∙◌, ap, drop}
use Rattle.snapshot_cursor.specs.Left.{scan_left}
use Rattle.snapshot_cursor.proofs.ScanLaws.{drop_more}
use Rattle.snapshot_cursor.proofs.scan.scan_behind.Goals as goal

pub loop-preserved : goal.loop-preserved
loop-preserved g c = c.next_place-place.ensures ∙ ap (λ l. drop 1 l) c.loop.invariant ∙ drop_more c.loop.counter (scan_left c.args.place (g.V.RowSource.rows c.args.view.now))

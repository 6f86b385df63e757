use Rattle.snapshot_cursor.proofs.ScanLaws.{end_is}
use Rattle.snapshot_cursor.proofs.scan.is_end.Goals as goal

pub returns : goal.returns
returns g c = end_is c.args.place (g.V.RowSource.rows c.args.view.now) c.next_after.result c.is_none.result c.if-place-eq0.false c.next_after.ensures.rising c.next_after.ensures.next c.is_none.ensures

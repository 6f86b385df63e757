use Rattle.std.proofs.Common.{◌∙◌, ap}
use Rattle.std.specs.Prelude.{not}
use Rattle.snapshot_cursor.proofs.ScanLaws.{ended, ends_by, goes_on}
use Rattle.snapshot_cursor.proofs.scan.next_place.Goals as goal

pub returns-then-is_none : goal.returns-then-is_none
returns-then-is_none g c =
    ended c.args.place (g.V.RowSource.rows c.args.view.now) (ends_by c.args.place (g.V.RowSource.rows c.args.view.now) c.next_after-after.result c.next_after-after.ensures.next (c.is_none.ensures ∙ ap not c.if-is_none.true))

pub returns : goal.returns
returns g c = goes_on c.args.place (g.V.RowSource.rows c.args.view.now) c.next_after-after.result c.if-place-eq0.false c.next_after-after.ensures.rising c.next_after-after.ensures.next (c.is_none.ensures ∙ ap not c.if-is_none.false)

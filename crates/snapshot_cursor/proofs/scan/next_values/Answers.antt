use Rattle.std.proofs.Common.{rules, sym, ◌∙◌, ap}
use mir.Val.{SFits}
use Rattle.std.specs.Int.{w64}
use Rattle.std.proofs.lemmas.Int.{to_z-of_z}
use Rattle.snapshot_cursor.proofs.ScanLaws.{ends, given}
use Rattle.snapshot_cursor.specs.Left.{first_of}
use Rattle.snapshot_cursor.proofs.scan.next_values.Goals as goal

pub returns-in_ok-row-in-Some : goal.returns-in_ok-row-in-Some
returns-in_ok-row-in-Some g c =
    let fits : SFits w64 c.in-Some.rowid = search rules in
    let same = to_z-of_z w64 c.in-Some.rowid fits in
    given c.args.place c.in-Some.rowid (g.V.RowSource.rows c.args.view.now) c.in_ok-row-in-Some.field-0 c.if-place-eq0.false c.next_after.ensures.rising (sym c.in-Some.is ∙ c.next_after.ensures.next) (rw same at c.in_ok-row-in-Some.ensures.values)

pub returns-in-None : goal.returns-in-None
returns-in-None g c = sym (ap first_of (ends c.args.place (g.V.RowSource.rows c.args.view.now) (sym c.in-None.is ∙ c.next_after.ensures.next)))

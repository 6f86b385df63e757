use Rattle.std.proofs.Common.{◌∙◌, ap, drop, ◌∷◌, ◌++◌, [], List, sym}
use Rattle.vec_base.specs.declared.value.Value.{Value}
use Rattle.snapshot_cursor.specs.Left.{scan_left}
use Rattle.snapshot_cursor.proofs.ScanLaws.{drop_more, taken_more}
use Rattle.snapshot_cursor.proofs.scan.scanned.Goals as goal

pub loop-preserved : goal.loop-preserved
loop-preserved g c =
    let rows = g.V.RowSource.rows c.args.view.now in
    let all = scan_left c.args.place rows in
    record {
      place = c.next_place-place.ensures ∙ ap (λ (l : List (List Value)). drop 1 l) c.loop.invariant.place ∙ drop_more c.loop.counter all;
      rows = c.in_ok-push-in-Some.ensures.ok ∙ ap (λ (l : List (List Value)). l ++ c.in-Some.values ∷ []) c.loop.invariant.rows ∙ taken_more all c.loop.counter (scan_left c.loop.place rows) c.in-Some.values c.loop.invariant.place (sym c.in-Some.is ∙ c.in_ok-values.ensures);
    }

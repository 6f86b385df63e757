use Rattle.std.proofs.Common.{◌≡◌, true, bytes_eq, sym, ◌∙◌}
use Rattle.plain_engine.proofs.PlaceLaws.{mark_first}
use Rattle.plain_engine.proofs.marks.+mark_place.Goals as goal

pub returns-then-is_same_name : goal.returns-then-is_same_name
returns-then-is_same_name t c =
    let here : bytes_eq c.in_ok-mark.mark.now.name c.args.name.now ≡ true = sym c.is_same_name.ensures ∙ c.if-is_same_name.true in
    rw c.in_ok-mark.ensures.cases.0 (mark_first c.args.name.now c.in_ok-mark.mark.now c.in_ok-mark.newer.now here c.in-None.ensures)

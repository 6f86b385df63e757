use Rattle.vec_shell.proofs.CutterLaws.{wanted_first, wanted_later}
use Rattle.vec_shell.proofs.cutter.wanted_of.Goals as goal

pub returns-then-is_empty : goal.returns-then-is_empty
returns-then-is_empty c = wanted_first c.args.text.now c.args.bytes.now _ c.leading_white.result c.saturating_sub-room.result c.is_empty.result c.is_empty.ensures c.if-is_empty.true c.leading_white.ensures.white c.saturating_sub-room.ensures c.first_of.ensures

pub returns-else-is_empty : goal.returns-else-is_empty
returns-else-is_empty c =
    wanted_later c.args.text.now c.args.bytes.now _ c.saturating_sub-room.result c.is_empty.result c.is_empty.ensures c.if-is_empty.false c.saturating_sub-room.ensures c.first_of-else-is_empty.ensures

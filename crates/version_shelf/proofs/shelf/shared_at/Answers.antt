use Rattle.std.proofs.Common.{rules}
use Rattle.version_shelf.proofs.SlotLaws.{shared-fresh, shared-kept}
use Rattle.version_shelf.proofs.shelf.shared_at.Goals as goal

pub returns-in_ok-share : goal.returns-in_ok-share
returns-in_ok-share c =
    shared-fresh c.args.slots.now c.args.place c.in-Some.version.now c.in_ok-share.field-0 (search rules) c.in_ok-share.ensures.table c.in_ok-share.ensures.follows

pub returns-in_ok-share_touched : goal.returns-in_ok-share_touched
returns-in_ok-share_touched c =
    rw c.origin_at.ensures (shared-kept c.args.slots.now c.args.place c.in-Some.version.now c.in_ok-share_touched.field-0 c.requires.follow (search rules) c.in_ok-share_touched.ensures)

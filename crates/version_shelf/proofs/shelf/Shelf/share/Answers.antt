use Rattle.std.proofs.Common.{◌-◌}
use Rattle.version_shelf.proofs.SlotLaws.{shared-numbered}
use Rattle.version_shelf.proofs.shelf.Shelf.share.Goals as goal

pub returns : goal.returns
returns c =
    shared-numbered c.self.inside.slots.items c.args.self.now c.args.held.now.places (c.args.number - 1) c.in-Some.place c.shared_at.result c.self.view_is c.in-Some.is (rw c.as_slice.ensures.value at c.shared_at.ensures)

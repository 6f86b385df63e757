use Rattle.std.proofs.Common.{set, None, ap, ◌∙◌}
use Rattle.version_shelf.proofs.SlotLaws.{free-follow, versions-free}
use Rattle.version_shelf.proofs.shelf.Shelf.free.Goals as goal

pub invariant_of-self : goal.invariant_of-self
invariant_of-self c = rw c.empty.ensures (free-follow c.self.inside.slots.items c.args.place c.self.invariant)

pub returns : goal.returns
returns c = rw c.empty.ensures (versions-free c.self.inside.slots.items c.args.place ∙ ap (λ vs. set vs c.args.place None) c.self.view_is)

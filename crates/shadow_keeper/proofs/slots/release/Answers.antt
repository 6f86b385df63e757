use Rattle.std.proofs.Common.{rules, ◌≡◌, Option, Some, None, List, ℕ, ap}
use Rattle.shadow_keeper.specs.inner.Slots.{slot_of}
use Rattle.shadow_keeper.proofs.SlotLaws.{body_in, slot_unseen}
use Rattle.shadow_keeper.proofs.slots.release.Goals as goal

none : (slot : Option (Option (List ℕ))) → Some None ≡ slot → None ≡ body_in slot
none slot e = ap body_in e

pub returns-in-Some-None : goal.returns-in-Some-None
returns-in-Some-None c = slot_unseen _ _ _ _ c.remove.ensures.updates.0 (none (slot_of c.args.slots.now.entries c.args.key.now) (search rules))

use Rattle.shadow_keeper.proofs.SlotLaws.{slot_changed}
use Rattle.shadow_keeper.proofs.slots.add.Goals as goal

pub returns : goal.returns
returns c = slot_changed _ _ _ _ c.in_ok-insert.ensures.updates.0

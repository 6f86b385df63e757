use Rattle.shadow_keeper.proofs.SlotLaws.{slot_changed, slots_kept}
use Rattle.shadow_keeper.proofs.slots.put.Goals as goal

pub returns-clause-tables : goal.returns-clause-tables
returns-clause-tables c = slot_changed _ _ _ _ c.in-Ok.ensures.updates.0

pub returns-clause-held : goal.returns-clause-held
returns-clause-held c = slots_kept _ _ _ _ c.in-Ok.ensures.updates.0

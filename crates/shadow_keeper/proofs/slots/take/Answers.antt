use Rattle.std.proofs.Common.{ap, sym, ◌∙◌}
use Rattle.shadow_keeper.proofs.SlotLaws.{body_in, get-tables_in, slot_changed, slots_kept}
use Rattle.shadow_keeper.proofs.slots.take.Goals as goal

pub returns-clause-body : goal.returns-clause-body
returns-clause-body c = ap body_in (sym c.in-Ok-Some.field-0-is ∙ c.in-Ok-Some.ensures.old) ∙ sym (get-tables_in c.args.slots.now.entries c.args.key)

pub returns-clause-tables : goal.returns-clause-tables
returns-clause-tables c = slot_changed _ _ _ _ c.in-Ok-Some.ensures.updates.0

pub returns-clause-held : goal.returns-clause-held
returns-clause-held c = slots_kept _ _ _ _ c.in-Ok-Some.ensures.updates.0

use Rattle.std.proofs.Common.{rules, refl, ◌≡◌, Option, Some, None, is_some, false, List, ℕ}
use Rattle.shadow_keeper.specs.inner.Slots.{slot_of}
use Rattle.shadow_keeper.proofs.SlotLaws.{body_in, slot_unseen, slots_kept}
use Rattle.shadow_keeper.proofs.slots.hold.Goals as goal

none : (slot : Option (Option (List ℕ))) → false ≡ is_some slot → None ≡ body_in slot
none None e = refl
none (Some body) e = absurd cc

pub returns-clause-tables : goal.returns-clause-tables
returns-clause-tables c = slot_unseen _ _ _ _ c.in_ok-insert.ensures.updates.0 (none (slot_of c.args.slots.now.entries c.args.key) (search rules))

pub returns-clause-held : goal.returns-clause-held
returns-clause-held c = slots_kept _ _ _ _ c.in_ok-insert.ensures.updates.0

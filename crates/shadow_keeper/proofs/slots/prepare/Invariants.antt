use Rattle.std.proofs.Common.{◌≡◌, map, take}
use Rattle.shadow_keeper.specs.inner.Edits.{edit_of}
use Rattle.shadow_keeper.specs.inner.Slots.{tables_in, AllHeld}
use Rattle.shadow_keeper.proofs.slots.prepare.Given as goal

abbrev pub invariant-loop-change : goal.invariant-loop-change
invariant-loop-change l = (tables_in l.slots.entries ≡ tables_in l.fn.slots.entries) × (l.edits.items ≡ map edit_of (take l.change-index l.changes)) × AllHeld l.slots.entries l.edits.items

use Rattle.std.proofs.Common.{◌≡◌, map}
use Rattle.std.specs.Vec.Iter.{into_iter_items}
use Rattle.shadow_records.specs.Batches.{applied, AllApply}
use Rattle.shadow_keeper.specs.inner.Edits.{change_of}
use Rattle.shadow_keeper.specs.inner.Slots.{tables_in, AllHeld}
use Rattle.shadow_keeper.proofs.slots.make_all.Given as goal

abbrev pub invariant-loop-edit : goal.invariant-loop-edit
invariant-loop-edit l =
    let rest = into_iter_items l.edit-iterator in
    (applied (map change_of rest) (tables_in l.slots.entries) ≡ applied (map change_of l.fn.edits.items) (tables_in l.fn.slots.entries))
    × AllApply (map change_of rest) (tables_in l.slots.entries)
    × AllHeld l.slots.entries rest

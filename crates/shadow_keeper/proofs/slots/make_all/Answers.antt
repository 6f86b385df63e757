use Rattle.std.proofs.Common.{rules, ◌≡◌, ◌∷◌}
use Rattle.std.specs.Vec.Iter.{into_iter_items}
use Rattle.shadow_keeper.proofs.EditLaws.{made_more}
use Rattle.shadow_keeper.proofs.slots.make_all.Goals as goal

pub loop-edit-preserved : goal.loop-edit-preserved
loop-edit-preserved c =
    let splits : into_iter_items c.loop-edit.edit-iterator ≡ c.in-Some.edit ∷ into_iter_items c.next.new.self = search rules in
    made_more _ _ c.in-Some.edit _ _ _ splits c.make.ensures.tables c.make.ensures.held c.loop-edit.invariant

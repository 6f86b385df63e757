use Rattle.std.proofs.Common.{◌≡◌, Less}
use Rattle.std.proofs.lemmas.List.Quantifiers.{all_pairs_remove}
use Rattle.slot_alloc.specs.inner.Kept.{spare_cmp}
use Rattle.slot_alloc.proofs.ListLaws.{contains-remove}
use Rattle.slot_alloc.proofs.spare.SpareIndex.remove.Goals as goal

pub invariant_of-self-2 : goal.invariant_of-self-2
invariant_of-self-2 c =
    let within = rw (← c.self.view_is) at c.requires in
    rw (c.in_ok-remove.ensures {u = tt}) (all_pairs_remove (λ x y. spare_cmp x y ≡ Less) c.self.inside.entries c.args.at within c.self.invariant)

pub returns-clause-others : goal.returns-clause-others
returns-clause-others c =
    let within = rw (← c.self.view_is) at c.requires in
    rw (c.in_ok-remove.ensures {u = tt}, ← c.self.view_is) (λ e there. contains-remove c.self.inside.entries c.args.at e within there)

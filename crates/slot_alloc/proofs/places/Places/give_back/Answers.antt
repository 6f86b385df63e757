use Rattle.std.proofs.Common.{◌∙◌}
use Rattle.slot_alloc.specs.inner.Kept.{ListsSpare}
use Rattle.slot_alloc.proofs.SpareLaws.{entry}
use Rattle.slot_alloc.proofs.PlaceLaws.{lists-emptied}
use Rattle.slot_alloc.proofs.places.Places.give_back.Goals as goal

pub invariant_of-self-then-emptied : goal.invariant_of-self-then-emptied
invariant_of-self-then-emptied c =
    let p = c.in_ok-partition.partition in
    let lists : ListsSpare c.self.inside.chunks c.add.new.self = record { listed = λ d t q is lt free. c.add.ensures.others (entry q d) (c.self.invariant.listed d t q is lt free) } in
    let freed = rw c.if-emptied.true at c.in_ok-emptied.ensures.freed in
    let values = c.values.ensures ∙ c.get.ensures in
    lists-emptied c.self.inside.chunks c.free.new.self c.add.new.self c.take_out.new.self p c.args.chunk c.args.slot lists freed (rw values at c.take_out.ensures)

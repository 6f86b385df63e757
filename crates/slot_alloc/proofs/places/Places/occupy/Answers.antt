use Rattle.std.proofs.Common.{◌≡◌, true, rules}
use Rattle.slot_alloc.specs.Places.{has_chunk}
use Rattle.slot_alloc.proofs.PlaceLaws.{values_of_chunk, lists-used}
use Rattle.slot_alloc.proofs.places.Places.occupy.Goals as goal

pub invariant_of-self-2 : goal.invariant_of-self-2
invariant_of-self-2 c =
    let there : has_chunk c.self.inside.chunks c.args.chunk ≡ true = search rules in
    let has = values_of_chunk c.self.inside.chunks c.args.chunk c.args.partition.now c.known.ensures there (rw (← c.self.view_is) at c.requires.values) in
    lists-used c.self.inside.chunks c.use_slot.new.self c.self.inside.spare c.args.partition.now c.args.chunk c.args.slot c.self.invariant (c.in_ok-use_slot.ensures.used c.args.partition.now has) has

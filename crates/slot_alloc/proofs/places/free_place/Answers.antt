use Rattle.std.proofs.Common.{arith}
use Rattle.slot_alloc.proofs.PlaceLaws.{full_chunk}
use Rattle.slot_alloc.proofs.places.free_place.Goals as goal

pub returns-in-Some-free_slot-clause-place : goal.returns-in-Some-free_slot-clause-place
returns-in-Some-free_slot-clause-place c =
    let free = c.in-Some-free_slot.ensures {u = tt} in
    let first = c.in-Some.ensures {u = tt} in
    record {
      chunk = free.0;
      within = free.1;
      free = free.2;
      lower_slots = free.3;
      lower_chunks = λ d lt. full_chunk c.args.chunks.now c.loop-at.spare c.args.partition.now d c.loop-at.invariant (λ there. let le = first.2 d there in absurd (omega (arith, le, lt)));
    }

pub returns-clause-full : goal.returns-clause-full
returns-clause-full c = λ _ d. full_chunk c.args.chunks.now c.loop-at.spare c.args.partition.now d c.loop-at.invariant (c.in_default.ensures {u = tt} d)

use Rattle.std.proofs.Common.{length}
use Rattle.slot_alloc.specs.inner.Kept.{ListsSpare}
use Rattle.slot_alloc.proofs.places.free_place.Given as goal

abbrev pub invariant-loop-at : goal.invariant-loop-at
invariant-loop-at l = ListsSpare l.chunks l.spare

abbrev pub decreases-loop-at : goal.decreases-loop-at
decreases-loop-at l = length l.spare

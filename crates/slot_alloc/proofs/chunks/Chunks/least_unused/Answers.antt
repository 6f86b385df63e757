use Rattle.std.proofs.Common.{ap, is_some}
use Rattle.slot_alloc.specs.Places.{partition_in}
use Rattle.slot_alloc.proofs.ChunkLaws.{unbroken_split, unused_next, used_lower}
use Rattle.slot_alloc.proofs.chunks.Chunks.least_unused.Goals as goal

pub front_len-at-requires : goal.front_len-at-requires
front_len-at-requires c = unbroken_split c.self.inside.chunks c.self.invariant.rise

pub returns-then-at-clause-unused : goal.returns-then-at-clause-unused
returns-then-at-clause-unused c =
    rw (← c.self.view_is) (
    ap (λ o. is_some (partition_in o))
    (unused_next c.self.inside.chunks c.front_len-at.result c.self.invariant.rise (λ k d lt. (c.self.invariant.each k d lt).positive) c.front_len-at.ensures))

pub returns-then-at-clause-lower : goal.returns-then-at-clause-lower
returns-then-at-clause-lower c =
    rw (← c.self.view_is) (used_lower c.self.inside.chunks c.front_len-at.result c.self.invariant.rise (λ k d lt. (c.self.invariant.each k d lt).positive) c.front_len-at.ensures)

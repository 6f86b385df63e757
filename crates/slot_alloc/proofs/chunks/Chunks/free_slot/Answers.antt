use Rattle.std.proofs.Common.{◌≡◌, Some, length, ap, sym, ◌∙◌}
use Rattle.std.proofs.lemmas.Option.{same_Some}
use Rattle.slot_alloc.specs.declared.chunk.Chunk.{Chunk}
use Rattle.slot_alloc.specs.Places.{partition_in}
use Rattle.slot_alloc.proofs.ChunkLaws.{found-at}
use Rattle.slot_alloc.proofs.ChangeLaws.{free_found}
use Rattle.slot_alloc.proofs.chunks.Chunks.free_slot.Goals as goal

pub returns-then-same_values : goal.returns-then-same_values
returns-then-same_values c =
    let xs = c.self.inside.chunks in
    let x = c.get-chunk.result.now in
    let there = c.in_ok-at.ensures {u = tt} in
    let is = found-at xs c.args.number c.in_ok-at.at x c.self.invariant.rise there.0 there.1 c.get-chunk.ensures in
    let same : x.partition ≡ c.args.partition.now = sym (c.values.ensures ∙ c.get.ensures) ∙ c.same_values.ensures.0 c.if-same_values.true in
    let sized : length x.used ≡ c.self.inside.size = ap (λ (y : Chunk). length y.used) c.get-chunk.ensures ∙ (c.self.invariant.each c.in_ok-at.at x there.0).sized in
    let free = rw c.get-then-same_values.ensures at c.first_free.ensures in
    rw (← c.self.view_is) (free_found c.self.inside.size xs c.args.number c.args.partition.now x c.first_free.result is same sized free)

pub returns-else-same_values : goal.returns-else-same_values
returns-else-same_values c =
    let xs = c.self.inside.chunks in
    let x = c.get-chunk.result.now in
    let there = c.in_ok-at.ensures {u = tt} in
    let is = found-at xs c.args.number c.in_ok-at.at x c.self.invariant.rise there.0 there.1 c.get-chunk.ensures in
    rw (← c.self.view_is) (λ has.
    let same : Some x.partition ≡ Some c.args.partition.now = sym (ap partition_in is) ∙ has in
    let equal : c.values.result.now ≡ c.args.partition.now = c.values.ensures ∙ c.get.ensures ∙ same_Some x.partition c.args.partition.now same in
    let t = c.same_values.ensures.1 equal in
    let f = c.if-same_values.false in
    absurd cc)

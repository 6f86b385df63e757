use Rattle.std.proofs.Common.{Some, ap, sym, ◌∙◌}
use Rattle.slot_alloc.specs.Places.{partition_in}
use Rattle.slot_alloc.proofs.ChunkLaws.{found-at}
use Rattle.slot_alloc.proofs.chunks.Chunks.partition.Goals as goal

pub returns : goal.returns
returns c =
    let there = c.in_ok-at.ensures {u = tt} in
    rw (← c.self.view_is) (
    ap (λ p. Some p) (c.values.ensures ∙ c.get-2.ensures)
    ∙ sym (ap partition_in (found-at c.self.inside.chunks c.args.number c.in_ok-at.at c.get.result.now c.self.invariant.rise there.0 there.1 c.get.ensures)))

use Rattle.std.proofs.Common.{Some, ap, sym, ◌∙◌}
use Rattle.std.proofs.lemmas.Result.{IfOk-weaker}
use Rattle.slot_alloc.specs.Places.{partition_in}
use Rattle.slot_alloc.proofs.ChunkLaws.{found-at}
use Rattle.slot_alloc.proofs.chunks.Chunks.share_partition.Goals as goal

pub returns : goal.returns
returns c =
    let is = found-at c.self.inside.chunks c.args.number c.place_of-at.result c.get.result.now c.self.invariant.rise c.place_of-at.ensures.within c.place_of-at.ensures.number c.get.ensures in
    rw (← c.self.view_is) (IfOk-weaker c.share.result _ _ (λ partition same. ap partition_in is ∙ ap (λ p. Some p) (sym same)) c.share.ensures)

use Rattle.std.proofs.Common.{set, ap₂, ◌∙◌, arith}
use Rattle.version_shelf.specs.inner.Origins.{cleared}
use Rattle.version_shelf.proofs.SlotLaws.{map_step}
use Rattle.version_shelf.proofs.slots.clear.Goals as goal

pub loop-i-preserved : goal.loop-i-preserved
loop-i-preserved c =
    let a = rw c.loop-i.invariant at c.index_mut.ensures.value in
    ap₂ (λ l o. set l c.loop-i.i o) c.loop-i.invariant c.clear_one.ensures
    ∙ map_step (cleared c.args.place) c.args.slots.now.items c.loop-i.i c.index_mut.result.now (omega arith) a

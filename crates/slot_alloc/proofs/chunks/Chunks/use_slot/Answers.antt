use Rattle.std.proofs.Common.{true, ap, ◌∙◌, arith}
use Rattle.slot_alloc.specs.declared.chunk.Chunk.{Chunk}
use Rattle.slot_alloc.proofs.ListLaws.{some_item}
use Rattle.slot_alloc.proofs.ChangeLaws.{chunks-marked, uses-marked, contains-set}
use Rattle.slot_alloc.proofs.chunks.Chunks.use_slot.Goals as goal

pub invariant_of-self-2 : goal.invariant_of-self-2
invariant_of-self-2 c =
    let within = rw (← c.self.view_is) at c.requires.slot in
    rw (c.in_ok-edit.ensures {u = tt})
    (chunks-marked c.self.inside.size c.self.inside.chunks c.place_of-at.result c.args.slot true c.self.invariant
    (λ d lt. contains-set _ c.args.slot (let e = (c.self.invariant.each c.place_of-at.result d lt).sized in omega (arith, e, within))))

pub returns-clause-used : goal.returns-clause-used
returns-clause-used c =
    let within = rw (← c.self.view_is) at c.requires.slot in
    let item = some_item c.self.inside.chunks c.place_of-at.result c.place_of-at.ensures.within in
    rw (c.in_ok-edit.ensures {u = tt}, ← c.self.view_is)
    (λ p has. uses-marked c.self.inside.size c.self.inside.chunks c.place_of-at.result c.args.number c.args.slot item.0 c.self.invariant c.place_of-at.ensures.within item.1 (ap (λ (x : Chunk). x.number) item.1 ∙ c.place_of-at.ensures.number item.0) within p has)

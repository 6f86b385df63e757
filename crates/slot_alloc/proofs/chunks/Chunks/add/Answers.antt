use Rattle.slot_alloc.proofs.ChangeLaws.{chunks-inserted, uses-inserted, not_there_from}
use Rattle.slot_alloc.proofs.chunks.Chunks.add.Goals as goal

pub invariant_of-self-2 : goal.invariant_of-self-2
invariant_of-self-2 c =
    let fresh = rw (← c.self.view_is) at c.requires.fresh in
    let within = rw (← c.self.view_is) at c.requires.slot in
    rw (c.in_ok-insert.ensures {u = tt})
    (chunks-inserted c.self.inside.size c.self.inside.chunks c.first_from-at.result c.args.number c.args.slot c.in_ok-chunk.chunk c.self.invariant c.first_from-at.ensures c.in_ok-chunk.ensures.number c.in_ok-chunk.ensures.used within (not_there_from _ fresh) c.requires.positive)

pub returns-clause-used : goal.returns-clause-used
returns-clause-used c =
    let fresh = rw (← c.self.view_is) at c.requires.fresh in
    let within = rw (← c.self.view_is) at c.requires.slot in
    rw (c.in_ok-insert.ensures {u = tt}, ← c.self.view_is)
    (uses-inserted c.self.inside.size c.self.inside.chunks c.first_from-at.result c.args.number c.args.slot c.in_ok-chunk.chunk c.self.invariant c.first_from-at.ensures c.in_ok-chunk.ensures.number c.in_ok-chunk.ensures.used within (not_there_from _ fresh) c.args.partition c.in_ok-chunk.ensures.partition)

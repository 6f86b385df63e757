use Rattle.std.proofs.Common.{◌≡◌, true, false, Some, get_or, ap, sym, ◌∙◌}
use Rattle.slot_alloc.proofs.ChunkLaws.{found-at}
use Rattle.slot_alloc.proofs.ChangeLaws.{at_slot}
use Rattle.slot_alloc.proofs.chunks.Chunks.partition_at.Goals as goal

pub returns-then-is_used : goal.returns-then-is_used
returns-then-is_used c =
    let there = c.in_ok-at.ensures {u = tt} in
    let x = c.get-chunk.result.now in
    let bit : get_or x.used c.args.slot false ≡ true = ap (λ bits. get_or bits c.args.slot false) (sym c.get.ensures) ∙ sym c.is_used.ensures ∙ c.if-is_used.true in
    let is = found-at c.self.inside.chunks c.args.number c.in_ok-at.at x c.self.invariant.rise there.0 there.1 c.get-chunk.ensures in
    rw (← c.self.view_is) (ap (λ p. Some p) (c.values.ensures ∙ c.get-then-is_used.ensures) ∙ sym (at_slot c.self.inside.chunks c.args.number c.args.slot x true is bit))

pub returns-else-is_used : goal.returns-else-is_used
returns-else-is_used c =
    let there = c.in_ok-at.ensures {u = tt} in
    let x = c.get-chunk.result.now in
    let bit : get_or x.used c.args.slot false ≡ false = ap (λ bits. get_or bits c.args.slot false) (sym c.get.ensures) ∙ sym c.is_used.ensures ∙ c.if-is_used.false in
    let is = found-at c.self.inside.chunks c.args.number c.in_ok-at.at x c.self.invariant.rise there.0 there.1 c.get-chunk.ensures in
    rw (← c.self.view_is) (sym (at_slot c.self.inside.chunks c.args.number c.args.slot x false is bit))

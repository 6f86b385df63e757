use Rattle.std.proofs.Common.{◌<◌, ◌-◌, ◌+◌, ◌/◌, arith}
use Rattle.slot_alloc.proofs.SearchLaws.{between_later, between_earlier}
use Rattle.slot_alloc.proofs.search.front_len.Goals as goal

pub loop-low-preserved-then-is_in_front : goal.loop-low-preserved-then-is_in_front
loop-low-preserved-then-is_in_front g c =
    let low = c.loop-low.low in
    let high = c.loop-low.high in
    let lt = c.loop-low-test.true in
    let before : low + (high - low) / 2 < high = omega (arith, lt) in
    between_later (g.F.Front.in_front c.args.test.now) c.args.items.now low high (low + (high - low) / 2) c.get.result.now c.requires c.loop-low.invariant (omega arith) before c.get.ensures
    c.is_in_front.result c.is_in_front.ensures c.if-is_in_front.true

pub loop-low-preserved : goal.loop-low-preserved
loop-low-preserved g c =
    let low = c.loop-low.low in
    let high = c.loop-low.high in
    let lt = c.loop-low-test.true in
    let before : low + (high - low) / 2 < high = omega (arith, lt) in
    between_earlier (g.F.Front.in_front c.args.test.now) c.args.items.now low high (low + (high - low) / 2) c.get.result.now c.requires c.loop-low.invariant (omega arith) before c.get.ensures
    c.is_in_front.result c.is_in_front.ensures c.if-is_in_front.false

use Rattle.std.proofs.Common.{rules}
use Rattle.vec_literal.proofs.Int8Usual.{opened, next_awaits, closed_whole}
use Rattle.vec_literal.proofs.usual_int8.read_usual.Goals as goal

pub loop-element-init : goal.loop-element-init
loop-element-init c = rw c.in_ok-vector.ensures.items (opened c.args.text.now (search rules) c.if-text-ne91.false)

pub loop-element-preserved : goal.loop-element-preserved
loop-element-preserved c =
    rw c.in_ok-push.ensures.items
    (next_awaits c.args.text.now c.loop-element.vector.items c.loop-element.from c.in-Some.element.length c.in-Some.element.byte c.spaces_end-from.result
    c.loop-element.invariant c.in-Some.ensures c.in-44.is c.spaces_end-from.ensures.passed c.spaces_end-from.ensures.inside c.spaces_end-from.ensures.spaces)

pub returns-in-93 : goal.returns-in-93
returns-in-93 c =
    rw c.in_ok-push.ensures.items
    (closed_whole c.args.text.now c.loop-element.vector.items c.loop-element.from c.in-Some.element.length c.in-Some.element.byte
    c.loop-element.invariant c.in-Some.ensures c.in-93.is c.if-end-text.true)

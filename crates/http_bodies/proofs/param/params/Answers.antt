use Rattle.std.proofs.Common.{◌∙◌, sym}
use Rattle.std.proofs.lemmas.Result.{err_from_is_err_and}
use Rattle.http_bodies.proofs.ItemLaws.{all_read, item_fault, item_read}
use Rattle.http_bodies.specs.Bodies.{param_at}
use Rattle.http_bodies.proofs.param.params.Goals as goal

pub returns-in_err-param : goal.returns-in_err-param
returns-in_err-param c =
    let p = err_from_is_err_and c.from_residual.result c.from_residual.ensures.1 in
    rw (p.1, p.2) (item_fault param_at c.args.items.now c.loop-item.item-index c.item-item.result c.loop-item.values _ c.in_err-param.field-0.0
    c.loop-item-test.true c.item-item.is c.in_err-param.ensures c.loop-item.invariant)

pub loop-item-preserved : goal.loop-item-preserved
loop-item-preserved c =
    rw c.in_ok-push.ensures.ok
    (sym (item_read param_at c.args.items.now c.loop-item.item-index c.item-item.result c.loop-item.values c.in_ok-param.field-0
    c.loop-item-test.true c.item-item.is c.in_ok-param.ensures) ∙ c.loop-item.invariant)

pub returns : goal.returns
returns c = all_read param_at c.args.items.now c.loop-item.item-index c.loop-item.values _ c.loop-item-test.false c.loop-item.invariant

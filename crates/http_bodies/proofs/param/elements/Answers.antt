use Rattle.std.proofs.Common.{◌∙◌, sym}
use Rattle.http_bodies.proofs.ItemLaws.{all_read, item_denied, item_read}
use Rattle.http_bodies.specs.Bodies.{element_at}
use Rattle.http_bodies.proofs.param.elements.Goals as goal

pub returns-in-None : goal.returns-in-None
returns-in-None c =
    item_denied element_at c.args.items.now c.loop-item.item-index c.item-item.result c.loop-item.bytes _
    c.loop-item-test.true c.item-item.is (sym c.element.ensures ∙ c.in-None.is) c.loop-item.invariant

pub loop-item-preserved : goal.loop-item-preserved
loop-item-preserved c =
    rw c.in_ok-push-in-Some.ensures.ok
    (sym (item_read element_at c.args.items.now c.loop-item.item-index c.item-item.result c.loop-item.bytes c.in-Some.byte
    c.loop-item-test.true c.item-item.is (sym c.element.ensures ∙ c.in-Some.is)) ∙ c.loop-item.invariant)

pub returns : goal.returns
returns c = all_read element_at c.args.items.now c.loop-item.item-index c.loop-item.bytes _ c.loop-item-test.false c.loop-item.invariant

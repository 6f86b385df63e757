use Rattle.std.proofs.Common.{◌≡◌, drop}
use Rattle.serde_json.specs.View.{items_view}
use Rattle.http_bodies.proofs.ItemLaws.{going_on}
use Rattle.http_bodies.specs.Bodies.{element_at, elements_at}
use Rattle.http_bodies.proofs.param.elements.Given as goal

abbrev pub invariant-loop-item : goal.invariant-loop-item
invariant-loop-item l = going_on element_at l.bytes (drop l.item-index l.items) ≡ elements_at (items_view l.fn.items)

use Rattle.std.proofs.Common.{◌≡◌, drop}
use Rattle.serde_json.specs.View.{items_view}
use Rattle.http_bodies.proofs.ItemLaws.{going_on}
use Rattle.http_bodies.specs.Bodies.{param_at, params_at}
use Rattle.http_bodies.proofs.param.params.Given as goal

abbrev pub invariant-loop-item : goal.invariant-loop-item
invariant-loop-item l = going_on param_at l.values (drop l.item-index l.items) ≡ params_at (items_view l.fn.items)

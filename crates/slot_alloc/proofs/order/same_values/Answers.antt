use Rattle.std.proofs.Common.{is_eq, ap, ◌∙◌}
use Rattle.slot_alloc.proofs.OrderLaws.{decided}
use Rattle.slot_alloc.proofs.order.same_values.Goals as goal

pub returns : goal.returns
returns c = decided c.args.a.now c.args.b.now c.is_eq.result (c.is_eq.ensures ∙ ap is_eq c.order.ensures)

use Rattle.std.proofs.Common.{length}
use Rattle.slot_alloc.proofs.order.+slice_order.Given as goal

abbrev pub decreases-slice_order : goal.decreases-slice_order
decreases-slice_order l = length l.a.now

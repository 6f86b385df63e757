use Rattle.std.proofs.Common.{◌-◌}
use Rattle.slot_alloc.proofs.SearchLaws.{IsBetween}
use Rattle.slot_alloc.proofs.search.front_len.Given as goal

abbrev pub invariant-loop-low : goal.invariant-loop-low
invariant-loop-low g l = IsBetween (g.F.Front.in_front l.test) l.items l.low l.high

abbrev pub decreases-loop-low : goal.decreases-loop-low
decreases-loop-low g l = l.high - l.low

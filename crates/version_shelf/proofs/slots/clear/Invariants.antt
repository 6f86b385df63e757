use Rattle.std.proofs.Common.{◌≡◌, ◌++◌, map, take, drop}
use Rattle.version_shelf.specs.inner.Origins.{cleared}
use Rattle.version_shelf.proofs.slots.clear.Given as goal

abbrev pub invariant-loop-i : goal.invariant-loop-i
invariant-loop-i l = l.slots.items ≡ map (cleared l.place) (take l.i l.initial.slots.items) ++ drop l.i l.initial.slots.items

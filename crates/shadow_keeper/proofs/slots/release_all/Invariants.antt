use Rattle.std.proofs.Common.{◌≡◌}
use Rattle.shadow_keeper.specs.inner.Slots.{tables_in}
use Rattle.shadow_keeper.proofs.slots.release_all.Given as goal

abbrev pub invariant-loop-change : goal.invariant-loop-change
invariant-loop-change l = tables_in l.slots.entries ≡ tables_in l.fn.slots.entries

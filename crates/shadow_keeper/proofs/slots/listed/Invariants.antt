use Rattle.std.proofs.Common.{◌≡◌, ◌++◌}
use Rattle.shadow_keeper.specs.inner.Slots.{records_in}
use Rattle.shadow_keeper.proofs.slots.listed.Given as goal

abbrev pub invariant-loop-key : goal.invariant-loop-key
invariant-loop-key l = l.records ++ records_in l.key-iterator ≡ records_in l.slots.entries

use Rattle.std.proofs.Common.{◌≡◌, take}
use Rattle.shadow_keeper.specs.Keeping.{tables_of}
use Rattle.shadow_keeper.specs.inner.Slots.{tables_in}
use Rattle.shadow_keeper.proofs.slots.copied.Given as goal

abbrev pub invariant-loop-record : goal.invariant-loop-record
invariant-loop-record l = tables_in l.slots.entries ≡ tables_of (take l.record-index l.records)

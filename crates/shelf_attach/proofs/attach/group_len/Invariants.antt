-- The records so far have the table number.
use Rattle.std.proofs.Common.{◌≡◌, take}
use Rattle.shelf_attach.specs.inner.Grouping.{AllUnder}
use Rattle.shelf_attach.proofs.attach.group_len.Given as goal

abbrev pub invariant-loop-at : goal.invariant-loop-at
invariant-loop-at l = AllUnder (λ of. of ≡ l.number) (take l.at l.records)

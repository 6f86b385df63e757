use Rattle.std.proofs.Common.{◌-◌, ◌<◌, ◌≤◌, ◌+◌, length, take}
use Rattle.shadow_keeper.specs.Keeping.{tables_of}
use Rattle.journal_tables.specs.Making.{GoesOn}
use Rattle.journal_tables.proofs.blocks.make_blocks.Given as goal

abbrev pub invariant-loop-at : goal.invariant-loop-at
invariant-loop-at l = record {
  within : l.at < length l.bytes;
  count : l.next ≤ l.number + l.at;
  on : GoesOn (take l.at l.bytes) l.number (tables_of l.fn.tables.entries) l.next (tables_of l.tables.entries);
}

abbrev pub decreases-loop-at : goal.decreases-loop-at
decreases-loop-at l = length l.bytes - l.at

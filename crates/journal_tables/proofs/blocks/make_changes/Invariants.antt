use Rattle.std.proofs.Common.{◌≡◌, length}
use Rattle.shadow_keeper.specs.Keeping.{tables_of}
use Rattle.journal_tables.specs.Making.{tables_after}
use Rattle.journal_tables.proofs.blocks.make_changes.Given as goal

abbrev pub invariant-loop-rest : goal.invariant-loop-rest
invariant-loop-rest l = tables_after l.rest (tables_of l.tables.entries) ≡ tables_after l.bytes (tables_of l.fn.tables.entries)

abbrev pub decreases-loop-rest : goal.decreases-loop-rest
decreases-loop-rest l = length l.rest

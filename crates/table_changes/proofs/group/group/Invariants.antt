use Rattle.table_changes.specs.inner.Steps.{TurnsKeys}
use Rattle.table_changes.specs.inner.Turns.{newer_in, older_in}
use Rattle.table_changes.proofs.KeySetLaws.{group_below}
use Rattle.table_changes.proofs.group.group.Given as goal

abbrev pub invariant-loop-before : goal.invariant-loop-before
invariant-loop-before l = TurnsKeys (group_below l.number l.kind l.a l.before) (older_in l.turn) (newer_in l.turn) l.initial.changes l.changes

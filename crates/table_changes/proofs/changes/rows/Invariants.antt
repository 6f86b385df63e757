use Rattle.table_changes.specs.inner.KeySets.{is_not_behind, is_row_kind, is_within}
use Rattle.table_changes.specs.inner.Steps.{TurnsKeys}
use Rattle.table_changes.specs.inner.Turns.{newer_in, older_in}
use Rattle.table_changes.proofs.RowsLeft.{rows_left}
use Rattle.table_changes.proofs.changes.rows.Given as goal

abbrev pub invariant-loop-rowid : goal.invariant-loop-rowid
invariant-loop-rowid l = TurnsKeys (is_within is_row_kind l.number (is_not_behind l.last)) (older_in l.turn) (newer_in l.turn) l.initial.changes l.changes

abbrev pub decreases-loop-rowid : goal.decreases-loop-rowid
decreases-loop-rowid l = rows_left l.last

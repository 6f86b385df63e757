use Rattle.std.proofs.Common.{◌<◌, ◌-◌}
use Rattle.table_changes.specs.inner.KeySets.{is_chunk_kind, is_up_to, is_within}
use Rattle.table_changes.specs.inner.Steps.{TurnsKeys}
use Rattle.table_changes.specs.inner.Turns.{newer_in, older_in}
use Rattle.table_changes.proofs.changes.chunks.Given as goal

abbrev pub invariant-loop-chunk : goal.invariant-loop-chunk
invariant-loop-chunk l = record {
  done : TurnsKeys (is_within is_chunk_kind l.number (is_up_to l.last)) (older_in l.turn) (newer_in l.turn) l.initial.changes l.changes;
  below : l.last < 4294967296;
}

abbrev pub decreases-loop-chunk : goal.decreases-loop-chunk
decreases-loop-chunk l = 4294967296 - l.last

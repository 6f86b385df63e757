use Rattle.std.proofs.Common.{rules}
use Rattle.table_changes.specs.inner.KeySets.{is_chunk_kind}
use Rattle.table_changes.specs.inner.Turns.{newer_in, older_in}
use Rattle.table_changes.proofs.GroupLaws.{negative_same, zero_same}
use Rattle.table_changes.proofs.KeySetLaws.{chunk_more, chunks_end}
use Rattle.table_changes.proofs.changes.chunks.Goals as goal

pub loop-chunk-preserved : goal.loop-chunk-preserved
loop-chunk-preserved c = record {
  done = chunk_more is_chunk_kind c.args.number c.loop-chunk.last c.in-Some.chunk (older_in c.args.turn.now) (newer_in c.args.turn.now) c.args.changes.now c.loop-chunk.changes c.chunk_records.new.changes
      c.loop-chunk.invariant.done c.in_ok-chunk_records.ensures c.in-Some.ensures.0 c.in-Some.ensures.1;
  below = search rules;
}

pub returns : goal.returns
returns c =
    chunks_end is_chunk_kind c.args.number c.loop-chunk.last (older_in c.args.turn.now) (newer_in c.args.turn.now) c.args.changes.now c.loop-chunk.changes
    c.loop-chunk.invariant.done c.in_default.ensures (zero_same c.args.turn.now c.known.ensures) (negative_same (older_in c.args.turn.now) (newer_in c.args.turn.now))

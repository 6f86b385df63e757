use Rattle.chunk_slots.proofs.ChunkLaws.{chunk_free}
use Rattle.chunk_slots.proofs.chunk.Chunk.with_shape.Goals as goal

pub returns : goal.returns
returns c = chunk_free c.args.size c.args.widths.now c.in_ok-zero_columns.field-0.items c.in_ok-free.field-0 (c.in_ok-zero_columns.ensures.widths) (c.in_ok-free.ensures {u = tt})

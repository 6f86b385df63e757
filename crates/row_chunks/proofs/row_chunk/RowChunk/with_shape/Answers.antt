use Rattle.row_chunks.proofs.ChunkLaws.{chunk_free}
use Rattle.row_chunks.proofs.WholeLaws.{free_whole}
use Rattle.row_chunks.proofs.row_chunk.RowChunk.with_shape.Goals as goal

pub returns : goal.returns
returns c =
    chunk_free c.args.size c.args.widths.now c.args.kinds.now c.in_ok-first_columns.field-0.items c.in_ok-with_shape.field-0 c.in_ok-first_columns.ensures.kinds (c.in_ok-with_shape.ensures {u = tt})

pub invariant_of-result : goal.invariant_of-result
invariant_of-result c =
    let columns = c.in_ok-first_columns.field-0.items in
    let slots = c.in_ok-with_shape.field-0 in
    free_whole c.args.size c.args.widths.now c.args.kinds.now slots columns
    (chunk_free c.args.size c.args.widths.now c.args.kinds.now columns slots c.in_ok-first_columns.ensures.kinds (c.in_ok-with_shape.ensures {u = tt})) c.in_ok-first_columns.ensures.sizes

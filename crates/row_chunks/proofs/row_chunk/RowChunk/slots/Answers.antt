use Rattle.row_chunks.proofs.ChunkLaws.{plain_seen}
use Rattle.row_chunks.proofs.row_chunk.RowChunk.slots.Goals as goal

pub returns : goal.returns
returns c = plain_seen c.self.inside.columns.items c.self.inside.slots c.args.self.now c.self.view_is

use Rattle.row_chunks.proofs.ChunkLaws.{slot_used, chunk_vector_left}
use Rattle.row_chunks.proofs.WholeLaws.{vector_whole}
use Rattle.row_chunks.proofs.row_chunk.RowChunk.set_vector.Goals as goal

pub set_vector-requires-clause-used : goal.set_vector-requires-clause-used
set_vector-requires-clause-used c = slot_used c.self.inside.columns.items c.self.inside.slots c.args.self.now c.args.slot c.self.view_is c.requires.used

pub returns : goal.returns
returns c =
    chunk_vector_left c.set_vector.result c.args.slot c.args.column c.args.vector.now c.self.inside.columns.items c.self.inside.slots c.set_vector.new.self c.args.self.now c.self.view_is c.set_vector.ensures

pub invariant_of-self : goal.invariant_of-self
invariant_of-self c =
    vector_whole c.set_vector.result c.args.slot c.args.column c.args.vector.now c.self.inside.columns.items c.self.inside.slots c.set_vector.new.self c.args.self.now c.self.view_is c.self.invariant c.set_vector.ensures

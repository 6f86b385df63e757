use Rattle.chunk_slots.proofs.ChunkLaws.{row_used, chunk_dropped}
use Rattle.chunk_slots.proofs.chunk.Chunk.free.Goals as goal

pub drop_slot-requires : goal.drop_slot-requires
drop_slot-requires c = row_used c.self.inside.columns.items c.self.inside.rows c.args.self.now c.args.slot c.self.view_is c.requires

pub returns : goal.returns
returns c = chunk_dropped c.args.slot c.self.inside.columns.items c.self.inside.rows c.drop_slot.new.self c.args.self.now c.self.view_is c.drop_slot.ensures

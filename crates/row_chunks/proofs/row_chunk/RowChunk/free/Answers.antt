use Rattle.std.proofs.Common.{None}
use Rattle.row_chunks.proofs.ColumnLaws.{keeps-itself}
use Rattle.row_chunks.proofs.ChunkLaws.{slot_used, chunk_dropped}
use Rattle.row_chunks.proofs.FitLaws.{fits_none}
use Rattle.row_chunks.proofs.WholeLaws.{changed_whole}
use Rattle.row_chunks.proofs.row_chunk.RowChunk.free.Goals as goal

pub free-requires : goal.free-requires
free-requires c = slot_used c.self.inside.columns.items c.self.inside.slots c.args.self.now c.args.slot c.self.view_is c.requires

pub returns : goal.returns
returns c = chunk_dropped c.args.slot c.self.inside.columns.items c.self.inside.slots c.free.new.self c.args.self.now c.self.view_is c.free.ensures

pub invariant_of-self : goal.invariant_of-self
invariant_of-self c =
    let columns = c.self.inside.columns.items in
    let slots = c.self.inside.slots in
    let chunk = c.args.self.now in
    changed_whole c.args.slot columns columns slots c.free.new.self chunk (keeps-itself c.args.slot columns) c.self.view_is c.self.invariant None
    (chunk_dropped c.args.slot columns slots c.free.new.self chunk c.self.view_is c.free.ensures) (fits_none chunk.kinds)

use Rattle.table_changes.proofs.NextLaws.{chunk_gone, chunk_made, chunk_over}
use Rattle.table_changes.proofs.turn.Turn.next_chunk.Goals as goal

pub returns-in-Over : goal.returns-in-Over
returns-in-Over c = chunk_over c.args.self.now _ c.in-Over.newer c.in-Over.is c.requires c.known.ensures c.args.after c.next_touched_chunk.result c.next_touched_chunk.ensures

pub returns-in-Made : goal.returns-in-Made
returns-in-Made c = chunk_made c.args.self.now c.in-Made.newer c.in-Made.is c.args.after c.next_chunk.result c.next_chunk.ensures

pub returns-in-Gone : goal.returns-in-Gone
returns-in-Gone c = chunk_gone c.args.self.now c.in-Gone.older c.in-Gone.is c.args.after c.next_chunk-in-Gone.result c.next_chunk-in-Gone.ensures

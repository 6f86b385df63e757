use Rattle.table_changes.proofs.NextLaws.{next_gone, next_made, next_over}
use Rattle.table_changes.proofs.turn.Turn.next_row.Goals as goal

pub returns-in-Over : goal.returns-in-Over
returns-in-Over c = next_over c.args.self.now _ c.in-Over.newer c.in-Over.is c.requires c.known_touches.ensures.rising c.args.after c.next_touched_row.result c.next_touched_row.ensures

pub returns-in-Made : goal.returns-in-Made
returns-in-Made c = next_made c.args.self.now c.in-Made.newer c.in-Made.is c.known.ensures c.args.after c.next_rowid.result c.next_rowid.ensures

pub returns-in-Gone : goal.returns-in-Gone
returns-in-Gone c = next_gone c.args.self.now c.in-Gone.older c.in-Gone.is c.known-in-Gone.ensures c.args.after c.next_rowid-in-Gone.result c.next_rowid-in-Gone.ensures

use Rattle.std.proofs.Common.{length}
use Rattle.table_writes.proofs.group.+text_id.Given as goal

abbrev pub decreases-text_id : goal.decreases-text_id
decreases-text_id l = length l.columns.now

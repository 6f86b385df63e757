use Rattle.std.proofs.Common.{length}
use Rattle.table_writes.proofs.update.+set_row.Given as goal

abbrev pub decreases-set_row : goal.decreases-set_row
decreases-set_row l = length l.sets.now

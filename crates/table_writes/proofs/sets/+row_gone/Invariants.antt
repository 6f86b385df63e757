use Rattle.std.proofs.Common.{length}
use Rattle.table_writes.proofs.sets.+row_gone.Given as goal

abbrev pub decreases-row_gone : goal.decreases-row_gone
decreases-row_gone l = length l.sets.now

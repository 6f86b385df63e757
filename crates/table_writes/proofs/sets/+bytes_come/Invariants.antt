use Rattle.std.proofs.Common.{length}
use Rattle.table_writes.proofs.sets.+bytes_come.Given as goal

abbrev pub decreases-bytes_come : goal.decreases-bytes_come
decreases-bytes_come l = length l.sets.now

use Rattle.std.proofs.Common.{length}
use Rattle.table_writes.proofs.sets.+long_set.Given as goal

abbrev pub decreases-long_set : goal.decreases-long_set
decreases-long_set l = length l.sets.now

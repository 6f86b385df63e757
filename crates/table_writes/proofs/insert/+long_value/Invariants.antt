use Rattle.std.proofs.Common.{length}
use Rattle.table_writes.proofs.insert.+long_value.Given as goal

abbrev pub decreases-long_value : goal.decreases-long_value
decreases-long_value l = length l.values.now

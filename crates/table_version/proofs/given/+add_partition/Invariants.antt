use Rattle.std.proofs.Common.{length}
use Rattle.table_version.proofs.given.+add_partition.Given as goal

abbrev pub decreases-add_partition : goal.decreases-add_partition
decreases-add_partition l = length l.columns.now

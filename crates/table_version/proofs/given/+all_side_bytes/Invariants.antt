use Rattle.std.proofs.Common.{length}
use Rattle.table_version.proofs.given.+all_side_bytes.Given as goal

abbrev pub decreases-all_side_bytes : goal.decreases-all_side_bytes
decreases-all_side_bytes l = length l.values.now

use Rattle.std.proofs.Common.{length}
use Rattle.table_version.proofs.columns.+row_bytes.Given as goal

abbrev pub decreases-row_bytes : goal.decreases-row_bytes
decreases-row_bytes l = length l.columns.now

use Rattle.std.proofs.Common.{length}
use Rattle.table_version.proofs.columns.+add_kinds.Given as goal

abbrev pub decreases-add_kinds : goal.decreases-add_kinds
decreases-add_kinds l = length l.columns.now

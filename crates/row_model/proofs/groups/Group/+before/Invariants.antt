use Rattle.std.proofs.Common.{length}
use Rattle.row_model.proofs.groups.Group.+before.Given as goal

abbrev pub decreases-before : goal.decreases-before
decreases-before l = length l.columns.now

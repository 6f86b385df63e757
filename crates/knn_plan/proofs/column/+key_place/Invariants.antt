use Rattle.std.proofs.Common.{length}
use Rattle.knn_plan.proofs.column.+key_place.Given as goal

abbrev pub decreases-key_place : goal.decreases-key_place
decreases-key_place l = length l.columns.now

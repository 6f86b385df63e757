use Rattle.std.proofs.Common.{length}
use Rattle.knn_plan.proofs.target.+target_among.Given as goal

abbrev pub decreases-target_among : goal.decreases-target_among
decreases-target_among l = length l.terms.now

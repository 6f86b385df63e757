use Rattle.std.proofs.Common.{length}
use Rattle.knn_plan.proofs.terms.+count_wanted.Given as goal

abbrev pub decreases-count_wanted : goal.decreases-count_wanted
decreases-count_wanted l = length l.terms.now

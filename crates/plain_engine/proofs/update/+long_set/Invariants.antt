use Rattle.std.proofs.Common.{length}
use Rattle.plain_engine.proofs.update.+long_set.Given as goal

abbrev pub decreases-long_set : goal.decreases-long_set
decreases-long_set l = length l.sets.now

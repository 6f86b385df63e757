use Rattle.std.proofs.Common.{length}
use Rattle.plain_engine.proofs.update.+set_all.Given as goal

abbrev pub decreases-set_all : goal.decreases-set_all
decreases-set_all l = length l.sets.now

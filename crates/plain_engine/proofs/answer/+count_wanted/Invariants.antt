use Rattle.std.proofs.Common.{length}
use Rattle.plain_engine.proofs.answer.+count_wanted.Given as goal

abbrev pub decreases-count_wanted : goal.decreases-count_wanted
decreases-count_wanted l = length l.terms.now

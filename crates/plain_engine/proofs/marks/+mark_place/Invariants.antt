use Rattle.std.proofs.Common.{length}
use Rattle.plain_engine.proofs.marks.+mark_place.Given as goal

abbrev pub decreases-mark_place : goal.decreases-mark_place
decreases-mark_place l = length l.marks.now

use Rattle.std.proofs.Common.{length}
use Rattle.txn_sessions.proofs.savepoints.+mark_place.Given as goal

abbrev pub decreases-mark_place : goal.decreases-mark_place
decreases-mark_place l = length l.marks.now

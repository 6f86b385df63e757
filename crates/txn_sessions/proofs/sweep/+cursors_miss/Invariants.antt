use Rattle.std.proofs.Common.{length}
use Rattle.txn_sessions.proofs.sweep.+cursors_miss.Given as goal

abbrev pub decreases-cursors_miss : goal.decreases-cursors_miss
decreases-cursors_miss l = length l.cursors.now

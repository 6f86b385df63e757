use Rattle.std.proofs.Common.{length}
use Rattle.txn_sessions.proofs.sweep.+marks_miss.Given as goal

abbrev pub decreases-marks_miss : goal.decreases-marks_miss
decreases-marks_miss l = length l.marks.now

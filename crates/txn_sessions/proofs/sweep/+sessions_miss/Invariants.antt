use Rattle.std.proofs.Common.{length}
use Rattle.txn_sessions.proofs.sweep.+sessions_miss.Given as goal

abbrev pub decreases-sessions_miss : goal.decreases-sessions_miss
decreases-sessions_miss l = length l.sessions.now

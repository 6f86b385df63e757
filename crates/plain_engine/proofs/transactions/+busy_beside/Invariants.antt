use Rattle.std.proofs.Common.{length}
use Rattle.plain_engine.proofs.transactions.+busy_beside.Given as goal

abbrev pub decreases-busy_beside : goal.decreases-busy_beside
decreases-busy_beside l = length l.sessions.now

use Rattle.std.proofs.Common.{length}
use Rattle.txn_sessions.proofs.transactions.+writer_beside.Given as goal

abbrev pub decreases-writer_beside : goal.decreases-writer_beside
decreases-writer_beside l = length l.sessions.now

use Rattle.std.proofs.Common.{length}
use Rattle.txn_sessions.proofs.cursors.+cursor_in.Given as goal

abbrev pub decreases-cursor_in : goal.decreases-cursor_in
decreases-cursor_in l = length l.cursors.now

use Rattle.std.proofs.Common.{length}
use Rattle.plain_engine.proofs.cursors.+cursor_place.Given as goal

abbrev pub decreases-cursor_place : goal.decreases-cursor_place
decreases-cursor_place l = length l.cursors.now

use Rattle.std.proofs.Common.{length}
use Rattle.plain_engine.proofs.insert.+given_rowid.Given as goal

abbrev pub decreases-given_rowid : goal.decreases-given_rowid
decreases-given_rowid l = length l.places.now

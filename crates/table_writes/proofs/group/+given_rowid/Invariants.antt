use Rattle.std.proofs.Common.{length}
use Rattle.table_writes.proofs.group.+given_rowid.Given as goal

abbrev pub decreases-given_rowid : goal.decreases-given_rowid
decreases-given_rowid l = length l.places.now

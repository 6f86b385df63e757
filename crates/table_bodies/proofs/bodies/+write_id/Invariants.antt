use Rattle.std.proofs.Common.{length}
use Rattle.table_bodies.proofs.bodies.+write_id.Given as goal

abbrev pub decreases-write_id : goal.decreases-write_id
decreases-write_id l = length l.columns.now

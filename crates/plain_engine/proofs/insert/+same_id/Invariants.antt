use Rattle.std.proofs.Common.{length}
use Rattle.plain_engine.proofs.insert.+same_id.Given as goal

abbrev pub decreases-same_id : goal.decreases-same_id
decreases-same_id l = length l.columns.now

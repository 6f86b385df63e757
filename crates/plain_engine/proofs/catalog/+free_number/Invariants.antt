use Rattle.std.proofs.Common.{length}
use Rattle.plain_engine.proofs.catalog.+free_number.Given as goal

abbrev pub decreases-free_number : goal.decreases-free_number
decreases-free_number l = length l.tables.now

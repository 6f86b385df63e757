use Rattle.std.proofs.Common.{length}
use Rattle.version_shelf.proofs.lookups.+free_in.Given as goal

abbrev pub decreases-free_in : goal.decreases-free_in
decreases-free_in l = length l.places.now

use Rattle.std.proofs.Common.{length}
use Rattle.version_shelf.proofs.lookups.+number_in.Given as goal

abbrev pub decreases-number_in : goal.decreases-number_in
decreases-number_in l = length l.places.now

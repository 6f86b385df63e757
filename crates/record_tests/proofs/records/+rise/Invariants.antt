use Rattle.std.proofs.Common.{length}
use Rattle.record_tests.proofs.records.+rise.Given as goal

abbrev pub decreases-rise : goal.decreases-rise
decreases-rise l = length l.records.now

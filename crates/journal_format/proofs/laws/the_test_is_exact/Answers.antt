use Rattle.journal_format.proofs.FittingLaws.{test_applies, applies_test}
use Rattle.journal_format.proofs.laws.the_test_is_exact.Goals as goal

pub returns-clause-sound : goal.returns-clause-sound
returns-clause-sound c = test_applies

pub returns-clause-complete : goal.returns-clause-complete
returns-clause-complete c = applies_test

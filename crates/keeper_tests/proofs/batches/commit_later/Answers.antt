use Rattle.keeper_tests.proofs.Applying.{later_apply}
use Rattle.keeper_tests.proofs.batches.commit_later.Goals as goal

pub commit-requires-clause-fits : goal.commit-requires-clause-fits
commit-requires-clause-fits c = λ tells. rw (c.in_ok-batch.ensures, c.requires.tables) later_apply

use Rattle.keeper_tests.proofs.Applying.{all_kinds_apply}
use Rattle.keeper_tests.proofs.batches.commit_all_kinds.Goals as goal

pub commit-requires-clause-fits : goal.commit-requires-clause-fits
commit-requires-clause-fits c = λ tells. rw c.in_ok-batch.ensures (all_kinds_apply _)

use Rattle.run_commits.proofs.OwnLaws.{own_answer}
use Rattle.run_commits.proofs.laws.answers_without_fault.Goals as goal

pub returns : goal.returns
returns c = own_answer

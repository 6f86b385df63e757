use Rattle.run_commits.proofs.StepLaws.{after_step}
use Rattle.run_commits.proofs.laws.catalogs_follow.Goals as goal

pub returns : goal.returns
returns c old new request reply = after_step old request reply new

use Rattle.journal_format.proofs.GateLaws.{commits_blocks}
use Rattle.journal_format.proofs.laws.blocks_are_read.Goals as goal

pub returns : goal.returns
returns c = commits_blocks

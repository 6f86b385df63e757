use Rattle.journal_format.proofs.SpellingLaws.{file_spells}
use Rattle.journal_format.proofs.laws.files_are_blocks.Goals as goal

pub returns : goal.returns
returns c = file_spells

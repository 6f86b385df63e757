use Rattle.journal_format.proofs.ChangeLaws.{changes_again, changes_take}
use Rattle.journal_format.proofs.laws.changes_are_read.Goals as goal

pub returns-clause-again : goal.returns-clause-again
returns-clause-again c = changes_again

pub returns-clause-only : goal.returns-clause-only
returns-clause-only c bytes cs fits e = changes_take bytes cs fits e

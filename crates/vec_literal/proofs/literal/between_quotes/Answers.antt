use Rattle.vec_literal.proofs.Enclosed.{quoted_undoubled}
use Rattle.vec_literal.proofs.literal.between_quotes.Goals as goal

pub returns-clause-text : goal.returns-clause-text
returns-clause-text c = quoted_undoubled c.args.literal.now c.requires

use Rattle.vec_literal.proofs.QuoteSearch.{first_quote}
use Rattle.vec_literal.proofs.quote.before_quote.Goals as goal

pub returns-clause-run : goal.returns-clause-run
returns-clause-run c = first_quote c.args.text.now c.memchr.result c.unwrap_or.result c.memchr.ensures c.unwrap_or.ensures

use Rattle.sql_reader.proofs.OneAnswer.{one_statement}
use Rattle.sql_reader.proofs.laws.one_statement.Goals as goal

pub returns : goal.returns
returns c = one_statement

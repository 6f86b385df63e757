use Rattle.vec0_columns.proofs.OneAnswer.{one_schema}
use Rattle.vec0_columns.proofs.laws.one_schema.Goals as goal

pub returns : goal.returns
returns c = one_schema

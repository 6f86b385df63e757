use Rattle.sql_reader.proofs.OneAnswer.{one_refusal, never_both}
use Rattle.sql_reader.proofs.laws.one_refusal.Goals as goal

pub returns-clause-one : goal.returns-clause-one
returns-clause-one c = one_refusal

pub returns-clause-none : goal.returns-clause-none
returns-clause-none c = never_both

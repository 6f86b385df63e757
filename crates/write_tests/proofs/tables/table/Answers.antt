use Rattle.std.proofs.Common.{ap, ◌∙◌}
use Rattle.vec_base.specs.Words.{is_name}
use Rattle.write_tests.proofs.StatementLaws.{valid_three, name_v}
use Rattle.write_tests.proofs.tables.table.Goals as goal

pub new-requires-clause-valid : goal.new-requires-clause-valid
new-requires-clause-valid c = valid_three c.in_ok-schema.field-0 c.in_ok-schema.ensures.columns c.in_ok-schema.ensures.size

pub new-requires-clause-name : goal.new-requires-clause-name
new-requires-clause-name c = ap is_name (c.in_ok-name.ensures {u = tt}) ∙ name_v

use Rattle.write_tests.proofs.StatementLaws.{formed}
use Rattle.write_tests.proofs.tables.insert_of.Goals as goal

pub returns : goal.returns
returns c = formed _ (c.in_ok-from_text.ensures {u = tt}) (c.in_ok-names.ensures {u = tt}) c.requires.some c.requires.each

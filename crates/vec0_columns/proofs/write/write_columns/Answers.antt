-- What is written is the canonical text, which declares the schema.
use Rattle.std.proofs.Common.{◌∙◌, rules}
use Rattle.vec0_columns.proofs.RoundTrip.{text_declares}
use Rattle.vec0_columns.proofs.write.write_columns.Goals as goal

pub returns-clause-reads_back : goal.returns-clause-reads_back
returns-clause-reads_back c = λ valid. text_declares c.from_string.result c.args.schema.now (c.from_string.ensures ∙ search rules) valid

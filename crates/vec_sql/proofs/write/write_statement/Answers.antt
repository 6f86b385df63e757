-- The text is the canonical one, which spells the statement.
use Rattle.std.proofs.Common.{◌≡◌, rules}
use Rattle.vec_sql.specs.CanonicalStatements.{statement_text}
use Rattle.vec_sql.proofs.ReadBack.{text_spells}
use Rattle.vec_sql.proofs.write.write_statement.Goals as goal

pub returns-clause-reads_back : goal.returns-clause-reads_back
returns-clause-reads_back c =
    let written : c.from_string.result ≡ statement_text c.args.statement.now = search rules in
    λ formed short. text_spells c.from_string.result c.args.statement.now written c.representable.ensures formed short

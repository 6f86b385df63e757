-- The literal of bytes spells them.
use Rattle.std.proofs.Common.{◌≡◌, rules}
use Rattle.vec_text.specs.ValueTexts.{int8_text}
use Rattle.vec_literal.proofs.Int8Written.{written_spells}
use Rattle.vec_literal.proofs.int8.write_int8.Goals as goal

pub returns-clause-reads_back : goal.returns-clause-reads_back
returns-clause-reads_back c =
    let written : c.from_string.result ≡ int8_text c.args.vector.now = search rules in
    written_spells c.from_string.result c.args.vector.now written c.type_inv.vector

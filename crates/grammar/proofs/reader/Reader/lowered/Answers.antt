use Rattle.std.proofs.Common.{◌≡◌, rules}
use Rattle.grammar.specs.inner.ReaderResults.{rest_of, first_of}
use Rattle.grammar.specs.Grammar.{lower}
use Rattle.grammar.proofs.Places.{name_is_word, name_kept}
use Rattle.grammar.proofs.reader.Reader.lowered.Goals as goal

pub word_text-requires : goal.word_text-requires
word_text-requires c = name_is_word (rest_of c.args.self.now) c.requires

pub returns-clause-name : goal.returns-clause-name
returns-clause-name c =
    let same : c.from_string.result ≡ lower (first_of (rest_of c.args.self.now)) = search rules in
    name_kept (rest_of c.args.self.now) c.from_string.result same c.word_text.ensures.well_spelled c.requires

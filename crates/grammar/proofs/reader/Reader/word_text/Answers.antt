use Rattle.grammar.specs.inner.ReaderResults.{rest_of, first_of}
use Rattle.grammar.proofs.Places.{told_word}
use Rattle.grammar.proofs.reader.Reader.word_text.Goals as goal

pub returns-in-Err-clause-value : goal.returns-in-Err-clause-value
returns-in-Err-clause-value c = absurd (let h = c.in-Err.ensures.cases in h.0 (told_word (first_of (rest_of c.args.self.now)) c.bytes.result.now c.bytes.ensures.well_spelled c.requires c.bytes.ensures.value))

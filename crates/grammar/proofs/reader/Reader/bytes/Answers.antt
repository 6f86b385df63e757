use Rattle.grammar.specs.inner.ReaderResults.{spelled_rest}
use Rattle.grammar.proofs.Numbering.{spelling_kept, told_kept}
use Rattle.grammar.proofs.reader.Reader.bytes.Goals as goal

pub returns-clause-value : goal.returns-clause-value
returns-clause-value c = spelling_kept c.args.self.now.greatest (spelled_rest c.args.self.now) c.spelling.result.now c.requires c.spelling.ensures.value

pub returns-clause-well_spelled : goal.returns-clause-well_spelled
returns-clause-well_spelled c = told_kept c.args.self.now.greatest (spelled_rest c.args.self.now) c.requires c.spelling.ensures.well_spelled

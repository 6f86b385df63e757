use Rattle.std.proofs.Common.{sym, ◌∙◌}
use Rattle.grammar.specs.inner.ReaderResults.{rest_of, first_of}
use Rattle.grammar.proofs.Places.{number_not, number_result, told_number}
use Rattle.grammar.proofs.reader.Reader.number_at.Goals as goal

pub returns : goal.returns
returns c = number_result c.args.greatest (rest_of c.args.self.now) c.bytes.result.now c.decimal_value.result (sym c.at_sort.ensures ∙ c.if-not-at_sort.false) c.bytes.ensures.value c.decimal_value.ensures

pub decimal_value-requires : goal.decimal_value-requires
decimal_value-requires c = told_number (first_of (rest_of c.args.self.now)) c.bytes.result.now c.bytes.ensures.well_spelled (sym c.at_sort.ensures ∙ c.if-not-at_sort.false) c.bytes.ensures.value

pub returns-then-not-at_sort : goal.returns-then-not-at_sort
returns-then-not-at_sort c = number_not c.args.greatest (first_of (rest_of c.args.self.now)) (sym c.at_sort.ensures ∙ c.if-not-at_sort.true)

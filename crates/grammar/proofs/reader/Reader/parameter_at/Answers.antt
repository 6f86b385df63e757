use Rattle.std.proofs.Common.{length, true, sym, ◌∙◌, ap}
use Rattle.std.proofs.lemmas.Bool.{eqb-true, eqb-false}
use Rattle.vec_literal.specs.declared.token.TokenSort.TheVariants as sorts
use Rattle.grammar.specs.inner.ReaderResults.{rest_of, spelled_rest, first_of}
use Rattle.grammar.proofs.Numbering.{no_parameter_at, sort_spelled, digits_numeral, plain_at, digits_at}
use Rattle.grammar.proofs.reader.Reader.parameter_at.Goals as goal

pub returns-then-not-at_sort : goal.returns-then-not-at_sort
returns-then-not-at_sort c = no_parameter_at (rest_of c.args.self.now) (sym c.at_sort.ensures ∙ c.if-not-at_sort.true)

pub parameter_number-requires : goal.parameter_number-requires
parameter_number-requires c =
    digits_numeral (first_of (spelled_rest c.args.self.now)) c.digits-digits.result.now
    (sort_spelled sorts.Param c.args.self.now.greatest (spelled_rest c.args.self.now) true (sym c.at_sort.ensures ∙ c.if-not-at_sort.false))
    c.digits-digits.ensures.well_spelled c.digits-digits.ensures.value (eqb-false (length c.digits-digits.result.now) 0 (sym c.is_empty.ensures ∙ c.if-is_empty.false))

pub returns-then-is_empty : goal.returns-then-is_empty
returns-then-is_empty c = rw c.next_number.ensures (plain_at c.args.self.now.greatest (spelled_rest c.args.self.now)
    (sort_spelled sorts.Param c.args.self.now.greatest (spelled_rest c.args.self.now) true (sym c.at_sort.ensures ∙ c.if-not-at_sort.false))
    c.digits-digits.ensures.well_spelled
    (ap length (sym c.digits-digits.ensures.value) ∙ eqb-true (length c.digits-digits.result.now) 0 (sym c.is_empty.ensures ∙ c.if-is_empty.true)))

pub returns-else-is_empty : goal.returns-else-is_empty
returns-else-is_empty c = digits_at c.args.self.now.greatest (spelled_rest c.args.self.now) c.digits-digits.result.now c.parameter_number.result
    (sort_spelled sorts.Param c.args.self.now.greatest (spelled_rest c.args.self.now) true (sym c.at_sort.ensures ∙ c.if-not-at_sort.false))
    c.digits-digits.ensures.value (eqb-false (length c.digits-digits.result.now) 0 (sym c.is_empty.ensures ∙ c.if-is_empty.false)) c.parameter_number.ensures

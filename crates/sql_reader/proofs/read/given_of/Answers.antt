use Rattle.std.proofs.Common.{List, sym, ◌∙◌, ap, inr}
use Rattle.std.proofs.lemmas.Bool.{MatchBool-at_true, MatchBool-at_false}
use Rattle.vec_literal.specs.Tokens.{Token}
use Rattle.grammar.specs.inner.ReaderResults.{rest_of}
use Rattle.grammar.specs.Parameters.{numbered_tokens}
use Rattle.grammar.specs.inner.Reading.{read}
use Rattle.sql_reader.specs.inner.FactoredStatements.{factored_statement}
use Rattle.sql_reader.proofs.Spelled.{spelled_whole, more_left, stopped}
use Rattle.sql_reader.proofs.read.given_of.Goals as goal

pub returns-then-is_done-clause-spelled : goal.returns-then-is_done-clause-spelled
returns-then-is_done-clause-spelled c =
    spelled_whole (numbered_tokens c.args.text.now) (rest_of c.statement.new.reader) c.in-Ok.given
    (ap (λ (z : List Token). read factored_statement z) (sym c.with_parameters-reader.ensures) ∙ c.in-Ok.ensures.reads) (MatchBool-at_true _ _ c.if-is_done.true c.is_done.ensures)

pub returns-in-Ok-clause-refusal : goal.returns-in-Ok-clause-refusal
returns-in-Ok-clause-refusal c =
    inr (
      rest_of c.statement.new.reader,
      (more_left (numbered_tokens c.args.text.now) (rest_of c.statement.new.reader) c.in-Ok.given
          (ap (λ (z : List Token). read factored_statement z) (sym c.with_parameters-reader.ensures) ∙ c.in-Ok.ensures.reads) (MatchBool-at_false _ _ c.if-is_done.false c.is_done.ensures)),
      c.refusal.ensures,
    )

pub returns-in-Err-Here-clause-refusal : goal.returns-in-Err-Here-clause-refusal
returns-in-Err-Here-clause-refusal c =
    inr (
      rest_of c.statement.new.reader,
      stopped (numbered_tokens c.args.text.now) (rest_of c.statement.new.reader)
          (ap (λ (z : List Token). read factored_statement z) (sym c.with_parameters-reader.ensures) ∙ (rw c.in-Err-Here.field-0-is at c.in-Err-Here.ensures.reads)),
      c.refusal-in-Err-Here.ensures,
    )

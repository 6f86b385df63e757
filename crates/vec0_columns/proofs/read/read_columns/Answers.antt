use Rattle.std.specs.List.{list_all}
use Rattle.std.proofs.Common.{◌≡◌, true, List, sym, ◌∙◌, ap, subst}
use Rattle.std.proofs.lemmas.Bool.{MatchBool-at_true, MatchBool-at_false}
use Rattle.vec_base.specs.Answers.{Gives}
use Rattle.vec_base.specs.declared.refusal.Refusal.TheVariants.{WantOfMemory}
use Rattle.vec_literal.specs.Tokens.{Token, tokens}
use Rattle.grammar.specs.inner.ReaderResults.{rest_of}
use Rattle.grammar.specs.inner.Reading.{read}
use Rattle.vec0_columns.specs.declared.text.Arg.{Arg}
use Rattle.vec0_columns.specs.ColumnGrammar.{has_name}
use Rattle.vec0_columns.specs.ColumnReading.{answer_of}
use Rattle.vec0_columns.specs.inner.FactoredColumns.{factored_columns}
use Rattle.vec0_columns.proofs.Answering.{failing_answered, long_answered, more_left, parts_answered, spelled, stopped}
use Rattle.vec0_columns.proofs.read.read_columns.Goals as goal

pub returns-then-text-gt-MOST_TEXT_BYTES-clause-exact : goal.returns-then-text-gt-MOST_TEXT_BYTES-clause-exact
returns-then-text-gt-MOST_TEXT_BYTES-clause-exact c = long_answered c.args.text.now c.if-text-gt-MOST_TEXT_BYTES.true

pub returns-then-is_done-clause-exact : goal.returns-then-is_done-clause-exact
returns-then-is_done-clause-exact c =
    parts_answered c.args.text.now c.in-Ok.args c.schema_of.result c.if-text-gt-MOST_TEXT_BYTES.false
    (spelled (tokens c.args.text.now 0) (rest_of c.columns.new.reader) c.in-Ok.args
    (ap (λ (z : List Token). read factored_columns z) (sym c.new-reader.ensures) ∙ c.in-Ok.ensures.reads) (MatchBool-at_true _ _ c.if-is_done.true c.is_done.ensures))
    (subst (λ (z : List Arg). Gives WantOfMemory c.schema_of.result (answer_of z)) c.as_slice.ensures c.schema_of.ensures.answer)

pub returns-in-Ok-clause-exact : goal.returns-in-Ok-clause-exact
returns-in-Ok-clause-exact c =
    failing_answered c.args.text.now (rest_of c.columns.new.reader) c.refusal.result c.if-text-gt-MOST_TEXT_BYTES.false
    (more_left (tokens c.args.text.now 0) (rest_of c.columns.new.reader) c.in-Ok.args
    (ap (λ (z : List Token). read factored_columns z) (sym c.new-reader.ensures) ∙ c.in-Ok.ensures.reads) (MatchBool-at_false _ _ c.if-is_done.false c.is_done.ensures))
    c.refusal.ensures

pub returns-in-Err-Here-clause-exact : goal.returns-in-Err-Here-clause-exact
returns-in-Err-Here-clause-exact c =
    failing_answered c.args.text.now (rest_of c.columns.new.reader) c.refusal-in-Err-Here.result c.if-text-gt-MOST_TEXT_BYTES.false
    (stopped (tokens c.args.text.now 0) (rest_of c.columns.new.reader)
    (ap (λ (z : List Token). read factored_columns z) (sym c.new-reader.ensures) ∙ (rw c.in-Err-Here.field-0-is at c.in-Err-Here.ensures.reads)))
    c.refusal-in-Err-Here.ensures

pub schema_of-requires : goal.schema_of-requires
schema_of-requires c = subst (λ (z : List Arg). list_all has_name z ≡ true) (sym c.as_slice.ensures) c.in-Ok.ensures.named

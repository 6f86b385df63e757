use Rattle.std.specs.List.{list_all}
use Rattle.std.proofs.Common.{◌≡◌, true, List, sym, ◌∙◌, ap, subst, drop}
use Rattle.vec_base.specs.Answers.{Gives}
use Rattle.vec_base.specs.declared.refusal.Refusal.TheVariants.{WantOfMemory}
use Rattle.vec_literal.specs.Tokens.{Token, tokens}
use Rattle.grammar.specs.inner.ReaderResults.{rest_of, first_of}
use Rattle.grammar.specs.inner.Reading.{read}
use Rattle.vec0_columns.specs.declared.text.Arg.{Arg}
use Rattle.vec0_columns.specs.ColumnGrammar.{has_name}
use Rattle.vec0_columns.specs.ColumnReading.{answer_of}
use Rattle.vec0_columns.specs.inner.FactoredColumns.{factored_columns}
use Rattle.vec0_columns.proofs.Answering.{failing_answered_at, long_answered_at, not_begun, parts_answered_at, place_closed, placed_valid, spelled_front, unclosed}
use Rattle.vec0_columns.proofs.read.read_columns_at.Goals as goal

pub returns-then-end-gt-MOST_TEXT_BYTES-clause-exact : goal.returns-then-end-gt-MOST_TEXT_BYTES-clause-exact
returns-then-end-gt-MOST_TEXT_BYTES-clause-exact c = long_answered_at c.args.text.now c.args.from c.if-end-gt-MOST_TEXT_BYTES.true

pub returns-then-at_mark-clause-exact : goal.returns-then-at_mark-clause-exact
returns-then-at_mark-clause-exact c =
    parts_answered_at c.args.text.now c.args.from (drop 1 (rest_of c.columns.new.reader)) c.in-Ok.args (first_of (rest_of c.columns.new.reader)) c.place-place.result c.schema_of.result c.placed.result c.if-end-gt-MOST_TEXT_BYTES.false
    (spelled_front (tokens c.args.text.now c.args.from) (rest_of c.columns.new.reader) c.in-Ok.args
    (ap (λ (z : List Token). read factored_columns z) (sym c.new-reader.ensures) ∙ c.in-Ok.ensures.reads) (sym c.at_mark.ensures ∙ c.if-at_mark.true))
    (c.place-place.ensures ∙ place_closed _ (rest_of c.columns.new.reader) (sym c.at_mark.ensures ∙ c.if-at_mark.true)) c.placed.ensures
    (subst (λ (z : List Arg). Gives WantOfMemory c.schema_of.result (answer_of z)) c.as_slice.ensures c.schema_of.ensures.answer)

pub returns-in-Ok-clause-exact : goal.returns-in-Ok-clause-exact
returns-in-Ok-clause-exact c =
    failing_answered_at c.args.text.now c.args.from (rest_of c.columns.new.reader) c.refusal.result c.if-end-gt-MOST_TEXT_BYTES.false
    (unclosed (tokens c.args.text.now c.args.from) (rest_of c.columns.new.reader) c.in-Ok.args
    (ap (λ (z : List Token). read factored_columns z) (sym c.new-reader.ensures) ∙ c.in-Ok.ensures.reads) (sym c.at_mark.ensures ∙ c.if-at_mark.false))
    c.refusal.ensures

pub returns-in-Err-Here-clause-exact : goal.returns-in-Err-Here-clause-exact
returns-in-Err-Here-clause-exact c =
    failing_answered_at c.args.text.now c.args.from (rest_of c.columns.new.reader) c.refusal-in-Err-Here.result c.if-end-gt-MOST_TEXT_BYTES.false
    (not_begun (tokens c.args.text.now c.args.from) (rest_of c.columns.new.reader)
    (ap (λ (z : List Token). read factored_columns z) (sym c.new-reader.ensures) ∙ (rw c.in-Err-Here.field-0-is at c.in-Err-Here.ensures.reads)))
    c.refusal-in-Err-Here.ensures

pub schema_of-requires : goal.schema_of-requires
schema_of-requires c = subst (λ (z : List Arg). list_all has_name z ≡ true) (sym c.as_slice.ensures) c.in-Ok.ensures.named

pub returns-then-at_mark-clause-valid : goal.returns-then-at_mark-clause-valid
returns-then-at_mark-clause-valid c = placed_valid c.place-place.result c.schema_of.result c.placed.result c.placed.ensures c.schema_of.ensures.valid

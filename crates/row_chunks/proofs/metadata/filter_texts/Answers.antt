use Rattle.std.proofs.Common.{ap, sym, ◌∙◌}
use Rattle.vec_base.specs.Comparison.{satisfies}
use Rattle.vec_base.specs.declared.value.Value.TheVariants.{Text}
use Rattle.metadata_chunks.specs.Columns.{kept}
use Rattle.row_chunks.proofs.FilterLaws.{kept_shown}
use Rattle.row_chunks.proofs.metadata.filter_texts.Goals as goal

pub returns : goal.returns
returns c =
    c.filter.ensures
    ∙ ap (λ v. kept (λ text. satisfies c.args.op (Text text) v) c.args.column.now c.args.keep.now) (ap (λ text. Text text) c.as_text.ensures ∙ sym c.in-Text.is)
    ∙ kept_shown (λ text. Text text) (λ value. satisfies c.args.op value c.args.constant.now) c.args.column.now c.args.keep.now

use Rattle.std.proofs.Common.{◌∙◌, ap, sym}
use Rattle.std.specs.List.{list_any}
use Rattle.vec_base.specs.Comparison.{satisfies}
use Rattle.vec_base.specs.declared.value.Op.TheVariants.{Eq}
use Rattle.vec_base.specs.declared.value.Value.TheVariants.{Int, Text}
use Rattle.metadata_chunks.specs.Columns.{kept}
use Rattle.row_chunks.specs.inner.Shown.{column_shown}
use Rattle.row_chunks.proofs.FilterLaws.{kept_shown}
use Rattle.row_chunks.proofs.cell_column.CellColumn.filter_member.Goals as goal

pub returns-in-Ints : goal.returns-in-Ints
returns-in-Ints c =
    let keep = c.args.keep.now in
    c.filter_member.ensures
    ∙ kept_shown (λ n. Int n) (λ value. list_any (satisfies Eq value) c.args.values.now) c.in-Ints.column keep
    ∙ ap (λ column. kept (λ value. list_any (satisfies Eq value) c.args.values.now) column.cells keep) (ap column_shown (sym c.in-Ints.is) ∙ c.self.view_is)

pub returns-in-Texts : goal.returns-in-Texts
returns-in-Texts c =
    let keep = c.args.keep.now in
    c.filter_member-in-Texts.ensures
    ∙ kept_shown (λ text. Text text) (λ value. list_any (satisfies Eq value) c.args.values.now) c.in-Texts.column keep
    ∙ ap (λ column. kept (λ value. list_any (satisfies Eq value) c.args.values.now) column.cells keep) (ap column_shown (sym c.in-Texts.is) ∙ c.self.view_is)

use Rattle.std.proofs.Common.{w64, ap, sym, ◌∙◌, rules}
use Rattle.std.proofs.lemmas.Int.{to_z-of_z}
use Rattle.vec_base.specs.Comparison.{satisfies}
use Rattle.vec_base.specs.declared.value.Value.TheVariants.{Int}
use Rattle.metadata_chunks.specs.Columns.{kept}
use Rattle.row_chunks.proofs.FilterLaws.{kept_shown}
use Rattle.row_chunks.proofs.metadata.filter_numbers.Goals as goal

pub returns : goal.returns
returns c =
    let number = c.in-Int.number in
    let is = ap (λ n. Int n) (to_z-of_z w64 number (search rules)) ∙ sym c.in-Int.is in
    c.filter.ensures
    ∙ ap (λ v. kept (λ n. satisfies c.args.op (Int n) v) c.args.column.now c.args.keep.now) is
    ∙ kept_shown (λ n. Int n) (λ value. satisfies c.args.op value c.args.constant.now) c.args.column.now c.args.keep.now

use Rattle.std.proofs.Common.{ap, ◌∙◌}
use Rattle.vec_base.specs.Comparison.{satisfies}
use Rattle.metadata_chunks.specs.Columns.{kept, number_of}
use Rattle.row_chunks.proofs.FilterLaws.{kept_shown}
use Rattle.row_chunks.proofs.PutLaws.{truth_shown}
use Rattle.row_chunks.proofs.metadata.filter_bools.Goals as goal

pub returns : goal.returns
returns c =
    c.filter.ensures
    ∙ ap (λ v. kept (λ bit. satisfies c.args.op (number_of bit) v) c.args.column.now c.args.keep.now) (truth_shown c.in-Int.number c.args.constant.now c.in-Int.is c.requires.constant)
    ∙ kept_shown number_of (λ value. satisfies c.args.op value c.args.constant.now) c.args.column.now c.args.keep.now

use Rattle.std.proofs.Common.{map, ap, ◌∙◌}
use Rattle.row_chunks.specs.declared.auxiliary.AuxiliaryCell.TheVariants.{Null as NullCell}
use Rattle.row_chunks.specs.inner.Held.{value_held}
use Rattle.row_chunks.proofs.PutLaws.{shown_copies}
use Rattle.row_chunks.proofs.auxiliary.AuxiliaryColumn.with_size.Goals as goal

pub returns-clause-cells : goal.returns-clause-cells
returns-clause-cells c = ap (map value_held) (c.in_ok-nulls.ensures {u = tt}) ∙ shown_copies value_held c.args.size NullCell

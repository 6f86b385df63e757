use Rattle.std.proofs.Common.{◌≡◌, replicate}
use Rattle.row_chunks.specs.declared.auxiliary.AuxiliaryCell.TheVariants.{Null as NullCell}
use Rattle.row_chunks.proofs.auxiliary.nulls.Given as goal

abbrev pub invariant-loop : goal.invariant-loop
invariant-loop l = l.cells ≡ replicate l.counter NullCell

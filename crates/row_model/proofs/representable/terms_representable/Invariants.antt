use Rattle.std.proofs.Common.{take}
use Rattle.std.specs.List.{AllByRecursion}
use Rattle.row_model.specs.RepresentableStatements.{IsRepresentableTerm}
use Rattle.row_model.proofs.representable.terms_representable.Given as goal

abbrev pub invariant-loop-term : goal.invariant-loop-term
invariant-loop-term l = AllByRecursion IsRepresentableTerm (take l.term-index l.terms)

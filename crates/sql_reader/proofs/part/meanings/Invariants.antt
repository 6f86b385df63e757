use Rattle.sql_reader.proofs.PartLaws.{Progress}
use Rattle.sql_reader.proofs.part.meanings.Given as goal

abbrev pub invariant-loop-part : goal.invariant-loop-part
invariant-loop-part g l = Progress (g.P.GivenPart.checks l.fn.names) g.P.GivenPart.uses l.fn.params (g.P.GivenPart.means l.fn.params) l.yielded l.meanings

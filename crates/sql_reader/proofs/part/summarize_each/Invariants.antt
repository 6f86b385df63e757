use Rattle.std.proofs.Common.{take}
use Rattle.std.specs.List.{flat_map}
use Rattle.sql_reader.specs.inner.ParameterSummaries.{SummarizesMore}
use Rattle.sql_reader.proofs.part.summarize_each.Given as goal

abbrev pub invariant-loop-part : goal.invariant-loop-part
invariant-loop-part g l = SummarizesMore l.fn.params (flat_map g.P.GivenPart.uses (take l.part-index l.fn.parts)) l.fn.summary l.more

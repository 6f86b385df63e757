use Rattle.std.proofs.Common.{◌+◌, take}
use Rattle.std.proofs.lemmas.List.{take_all}
use Rattle.sql_reader.proofs.PartLaws.{taken_more}
use Rattle.sql_reader.proofs.ParameterLaws.{summaries_more, summaries_end}
use Rattle.sql_reader.proofs.part.summarize_each.Goals as goal

pub loop-part-preserved : goal.loop-part-preserved
loop-part-preserved g c =
    summaries_more g.P.GivenPart.uses c.args.params.now (take c.loop-part.part-index c.args.parts.now) (take (c.loop-part.part-index + 1) c.args.parts.now) c.part-item.result c.args.summary c.loop-part.more c.in_ok-more.more
    c.loop-part.invariant c.in_ok-more.ensures (taken_more c.args.parts.now c.loop-part.part-index c.part-item.result c.loop-part-test.true c.part-item.is)

pub returns : goal.returns
returns g c = summaries_end g.P.GivenPart.uses c.args.params.now (take c.loop-part.part-index c.args.parts.now) c.args.parts.now c.args.summary c.loop-part.more c.loop-part.invariant (take_all c.loop-part.part-index c.args.parts.now c.loop-part-test.false)

use Rattle.std.proofs.lemmas.Result.{on_ok_weaker}
use Rattle.vec0_columns.proofs.write.put_auxiliary.Goals as goal

pub returns-clause-added : goal.returns-clause-added
returns-clause-added g c = on_ok_weaker c.put-3.result (g.met.W.Takes.both _ _ _ _ _ (g.met.W.Takes.both _ _ _ _ _ c.in_ok-put.ensures.added c.in_ok-put-2.ensures.added)) c.put-3.ensures.added

use Rattle.std.proofs.lemmas.Result.{on_ok_weaker}
use Rattle.http_replies.proofs.body.put_planned.Goals as goal

pub returns-clause-added : goal.returns-clause-added
returns-clause-added g c =
    let name = rw c.shape_name.ensures at c.in_ok-put-2.ensures.added in
    on_ok_weaker c.put-3.result (g.met.W.Takes.both _ _ _ _ _ (g.met.W.Takes.both _ _ _ _ _ c.in_ok-put.ensures.added name)) c.put-3.ensures.added

use Rattle.std.proofs.lemmas.Result.{on_ok_weaker}
use Rattle.http_replies.proofs.body.put_inserted.Goals as goal

pub returns-clause-added : goal.returns-clause-added
returns-clause-added g c =
    on_ok_weaker c.put.result (g.met.W.Takes.both _ _ _ _ _ (g.met.W.Takes.both _ _ _ _ _ c.in_ok-put_counted.ensures.added c.in_ok-put_signed_counted.ensures.added)) c.put.ensures.added

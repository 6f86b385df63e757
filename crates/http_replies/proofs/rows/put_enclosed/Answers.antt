use Rattle.std.proofs.lemmas.Result.{on_ok_weaker}
use Rattle.http_replies.proofs.rows.put_enclosed.Goals as goal

pub returns-clause-added : goal.returns-clause-added
returns-clause-added g c =
    on_ok_weaker c.put-2.result (g.met.W.Takes.both _ _ _ _ _ (g.met.W.Takes.both _ _ _ _ _ c.in_ok-put.ensures.added c.in_ok-put_hex.ensures.added)) c.put-2.ensures.added

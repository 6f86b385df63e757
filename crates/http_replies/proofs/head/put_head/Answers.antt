use Rattle.std.proofs.Common.{◌∙◌}
use Rattle.std.proofs.lemmas.Result.{on_ok_weaker}
use Rattle.http_replies.proofs.head.put_head.Goals as goal

pub returns-clause-added : goal.returns-clause-added
returns-clause-added g c =
    let status = rw (c.from.ensures ∙ c.as_u16.ensures.value) at c.in_ok-put_counted.ensures.added in
    let named = rw c.phrase_of.ensures at c.in_ok-put-2.ensures.added in
    on_ok_weaker c.put-3.result (g.met.W.Takes.both _ _ _ _ _ (g.met.W.Takes.both _ _ _ _ _ (g.met.W.Takes.both _ _ _ _ _ (g.met.W.Takes.both _ _ _ _ _ status c.in_ok-put.ensures.added) named) c.in_ok-put_counted-2.ensures.added)) c.put-3.ensures.added

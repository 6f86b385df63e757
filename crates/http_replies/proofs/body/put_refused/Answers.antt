use Rattle.std.proofs.Common.{◌∙◌}
use Rattle.std.proofs.lemmas.Result.{on_ok_weaker}
use Rattle.http_replies.proofs.body.put_refused.Goals as goal

pub returns-clause-added : goal.returns-clause-added
returns-clause-added g c =
    let number = rw (c.from.ensures ∙ c.number.ensures) at c.in_ok-put_counted.ensures.added in
    on_ok_weaker c.put-2.result (g.met.W.Takes.both _ _ _ _ _ (g.met.W.Takes.both _ _ _ _ _ (g.met.W.Takes.both _ _ _ _ _ number c.in_ok-put.ensures.added) c.in_ok-put_refusal.ensures.added)) c.put-2.ensures.added

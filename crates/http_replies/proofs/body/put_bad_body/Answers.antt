use Rattle.std.proofs.lemmas.Result.{on_ok_weaker}
use Rattle.http_replies.proofs.body.put_bad_body.Goals as goal

pub returns-clause-added : goal.returns-clause-added
returns-clause-added g c =
    let status = rw c.from.ensures at c.in_ok-put_counted.ensures.added in
    on_ok_weaker c.put.result (g.met.W.Takes.both _ _ _ _ _ status) c.put.ensures.added

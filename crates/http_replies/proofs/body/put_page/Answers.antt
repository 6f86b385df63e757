use Rattle.std.proofs.lemmas.Result.{on_ok_weaker}
use Rattle.http_replies.proofs.body.put_page.Goals as goal

pub returns-clause-added : goal.returns-clause-added
returns-clause-added g c =
    let truth = rw c.truth_json.ensures at c.in_ok-put-2.ensures.added in
    let rows = rw c.as_slice.ensures at c.in_ok-put_rows.ensures.added in
    on_ok_weaker c.put-4.result (g.met.W.Takes.both _ _ _ _ _ (g.met.W.Takes.both _ _ _ _ _ (g.met.W.Takes.both _ _ _ _ _ (g.met.W.Takes.both _ _ _ _ _ c.in_ok-put.ensures.added truth) c.in_ok-put-3.ensures.added) rows)) c.put-4.ensures.added

use Rattle.std.proofs.lemmas.Result.{on_ok_weaker}
use Rattle.vec_text.proofs.refusal.put_shape.Goals as goal

pub returns-clause-added : goal.returns-clause-added
returns-clause-added g c =
    let first = rw c.from.ensures at c.in_ok-put_counted.ensures.added in
    let second = rw c.from-2.ensures at c.in_ok-put_counted-2.ensures.added in
    let last = rw c.from-3.ensures at c.put_counted-3.ensures.added in
    on_ok_weaker c.put_counted-3.result (g.met.W.Takes.both _ _ _ _ _ (g.met.W.Takes.both _ _ _ _ _ first second)) last

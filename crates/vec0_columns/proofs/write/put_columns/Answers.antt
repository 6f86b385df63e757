use Rattle.std.proofs.lemmas.Result.{on_ok_weaker}
use Rattle.vec0_columns.proofs.write.put_columns.Goals as goal

pub returns-clause-added : goal.returns-clause-added
returns-clause-added g c =
    let columns = rw c.as_slice.ensures at c.in_ok-put_all.ensures.added in
    let number = rw c.from.ensures at c.put_number.ensures.added in
    on_ok_weaker c.put_number.result (g.met.W.Takes.both _ _ _ _ _ (g.met.W.Takes.both _ _ _ _ _ columns c.in_ok-put.ensures.added)) number

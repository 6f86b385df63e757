use Rattle.std.proofs.lemmas.Result.{on_ok_weaker}
use Rattle.vec0_columns.proofs.write.put_int8_column.Goals as goal

pub returns-clause-added : goal.returns-clause-added
returns-clause-added g c =
    let number = rw c.from.ensures at c.in_ok-put_number.ensures.added in
    let name = rw c.metric_name.ensures at c.put-2.ensures.added in
    on_ok_weaker c.put-2.result (g.met.W.Takes.both _ _ _ _ _ (g.met.W.Takes.both _ _ _ _ _ (g.met.W.Takes.both _ _ _ _ _ c.in_ok-put_two.ensures.added number) c.in_ok-put.ensures.added)) name

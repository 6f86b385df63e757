use Rattle.std.proofs.lemmas.Result.{on_ok_weaker}
use Rattle.vec_shell.proofs.lines.put_rows.Goals as goal

pub returns-clause-added : goal.returns-clause-added
returns-clause-added g c =
    let rows = rw c.as_slice.ensures at c.in_ok-put_row_lines.ensures.added in
    let count = rw c.len.ensures at c.in_ok-put_counted.ensures.added in
    on_ok_weaker c.put.result (g.met.W.Takes.both _ _ _ _ _ (g.met.W.Takes.both _ _ _ _ _ rows count)) c.put.ensures.added

use Rattle.row_store.proofs.PartLaws.{found_at}
use Rattle.row_store.proofs.parts.drop_row.Goals as goal

pub returns-then-used-gt1-clause-changed : goal.returns-then-used-gt1-clause-changed
returns-then-used-gt1-clause-changed c =
    let here = c.in-Some.ensures {u = tt} in
    rw (found_at c.args.parts.now c.args.number c.in-Some.at here.0 here.1).number at c.free_slot.ensures.changed

pub returns-else-used-gt1-clause-changed : goal.returns-else-used-gt1-clause-changed
returns-else-used-gt1-clause-changed c =
    let here = c.in-Some.ensures {u = tt} in
    rw (found_at c.args.parts.now c.args.number c.in-Some.at here.0 here.1).number at c.remove_part.ensures.changed

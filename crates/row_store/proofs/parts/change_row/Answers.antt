use Rattle.row_store.proofs.PartLaws.{found_at}
use Rattle.row_store.proofs.SlotLaws.{altered_at}
use Rattle.row_store.proofs.parts.change_row.Goals as goal

pub returns-clause-changed : goal.returns-clause-changed
returns-clause-changed c =
    let here = c.in-Some.ensures {u = tt} in
    (altered_at c.args.parts.now c.edit.new.self c.in-Some.at c.args.number c.args.slot c.args.change.now c.requires.rise (found_at c.args.parts.now c.args.number c.in-Some.at here.0 here.1)
    c.requires.used c.requires.fits (c.in_ok-edit.ensures {u = tt})).0

pub returns-clause-shapes : goal.returns-clause-shapes
returns-clause-shapes c =
    let here = c.in-Some.ensures {u = tt} in
    (altered_at c.args.parts.now c.edit.new.self c.in-Some.at c.args.number c.args.slot c.args.change.now c.requires.rise (found_at c.args.parts.now c.args.number c.in-Some.at here.0 here.1)
    c.requires.used c.requires.fits (c.in_ok-edit.ensures {u = tt})).1

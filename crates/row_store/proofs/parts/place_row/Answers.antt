use Rattle.std.proofs.lemmas.Result.{on_ok_weaker}
use Rattle.row_store.proofs.PartLaws.{found_at, can_take}
use Rattle.row_store.proofs.parts.place_row.Goals as goal

pub fill_slot-requires-clause-fits : goal.fill_slot-requires-clause-fits
fill_slot-requires-clause-fits c =
    let here = c.in-Some.ensures {u = tt} in
    let row = c.args.row.now in
    can_take c.args.parts.now c.args.number c.in-Some.at row.slot c.args.shape.now row.columns.now row.values.now c.requires.parts
    (found_at c.args.parts.now c.args.number c.in-Some.at here.0 here.1) c.requires.free c.requires.slot c.requires.fits

pub returns-in-Some-clause-changed : goal.returns-in-Some-clause-changed
returns-in-Some-clause-changed c =
    let here = c.in-Some.ensures {u = tt} in
    let found = found_at c.args.parts.now c.args.number c.in-Some.at here.0 here.1 in
    rw found.number at c.fill_slot.ensures.changed

pub returns-in-Some-clause-shapes : goal.returns-in-Some-clause-shapes
returns-in-Some-clause-shapes c = on_ok_weaker c.fill_slot.result (λ keeps. keeps c.args.shape.now c.requires.parts) c.fill_slot.ensures.shapes

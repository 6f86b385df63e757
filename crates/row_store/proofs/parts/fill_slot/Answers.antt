use Rattle.row_store.proofs.PartLaws.{filled_at}
use Rattle.row_store.proofs.parts.fill_slot.Goals as goal

pub returns-clause-changed : goal.returns-clause-changed
returns-clause-changed c =
    let row = c.args.row.now in
    (filled_at c.args.parts.now c.edit.new.self c.args.at row.slot row.rowid row.columns.now row.values.now c.requires.within c.requires.rise c.requires.fits (c.in_ok-edit.ensures {u = tt})).0

pub returns-clause-shapes : goal.returns-clause-shapes
returns-clause-shapes c =
    let row = c.args.row.now in
    (filled_at c.args.parts.now c.edit.new.self c.args.at row.slot row.rowid row.columns.now row.values.now c.requires.within c.requires.rise c.requires.fits (c.in_ok-edit.ensures {u = tt})).1

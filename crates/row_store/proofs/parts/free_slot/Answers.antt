use Rattle.row_store.proofs.PartLaws.{freed_at}
use Rattle.row_store.proofs.parts.free_slot.Goals as goal

pub returns-clause-changed : goal.returns-clause-changed
returns-clause-changed c = (freed_at c.args.parts.now c.edit.new.self c.args.at c.args.slot c.requires.within c.requires.rise c.requires.used c.requires.others (c.in_ok-edit.ensures {u = tt})).0

pub returns-clause-shapes : goal.returns-clause-shapes
returns-clause-shapes c = (freed_at c.args.parts.now c.edit.new.self c.args.at c.args.slot c.requires.within c.requires.rise c.requires.used c.requires.others (c.in_ok-edit.ensures {u = tt})).1

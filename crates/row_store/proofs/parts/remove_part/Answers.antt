use Rattle.row_store.proofs.PartLaws.{left_at}
use Rattle.row_store.proofs.parts.remove_part.Goals as goal

pub returns-clause-changed : goal.returns-clause-changed
returns-clause-changed c = (left_at c.args.parts.now c.remove.new.self c.args.at c.args.slot c.requires.within c.requires.rise c.requires.used c.requires.last (c.in_ok-remove.ensures {u = tt})).0

pub returns-clause-shapes : goal.returns-clause-shapes
returns-clause-shapes c = (left_at c.args.parts.now c.remove.new.self c.args.at c.args.slot c.requires.within c.requires.rise c.requires.used c.requires.last (c.in_ok-remove.ensures {u = tt})).1

use Rattle.slot_alloc.proofs.ChunkLaws.{there}
use Rattle.slot_alloc.proofs.chunks.place_of.Goals as goal

pub returns-clause-within : goal.returns-clause-within
returns-clause-within c = (there c.args.number c.args.chunks.now c.first_from.result c.requires.rise c.first_from.ensures c.requires.there).within

pub returns-clause-number : goal.returns-clause-number
returns-clause-number c = (there c.args.number c.args.chunks.now c.first_from.result c.requires.rise c.first_from.ensures c.requires.there).number

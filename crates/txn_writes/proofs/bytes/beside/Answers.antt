use Rattle.std.proofs.Common.{◌∙◌, ◌-◌, set, None, ap}
use Rattle.version_shelf.specs.declared.held.Held.{Held}
use Rattle.txn_sessions.specs.Seen.{held_seen}
use Rattle.txn_writes.proofs.ByteLaws.{beside-is}
use Rattle.txn_writes.proofs.bytes.beside.Goals as goal

pub returns : goal.returns
returns c name n =
    let m = c.args.machine.now in
    let places = c.without-others.ensures ∙ ap (λ (h : Held). set h.places (c.args.number - 1) None) c.seen.ensures in
    beside-is name m.shelf (held_seen m c.args.at).places c.args.number c.catalog_bytes.result n c.requires.valid (rw places at c.catalog_bytes.ensures.vectors) (rw places at c.catalog_bytes.ensures.sides)

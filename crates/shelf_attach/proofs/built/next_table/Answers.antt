use Rattle.std.proofs.Common.{rules}
use Rattle.shelf_attach.specs.inner.Building.{tables_in}
use Rattle.shelf_attach.proofs.StageLaws.{no_room}
use Rattle.shelf_attach.proofs.built.next_table.Goals as goal

pub returns-then-not-has_room-clause-damaged : goal.returns-then-not-has_room-clause-damaged
returns-then-not-has_room-clause-damaged c =
    let none = c.has_room.ensures.none (search rules) in
    no_room (tables_in c.args.built.now) c.args.number c.args.records.now c.in-Ok.table.table c.known.ensures (c.in-Ok.ensures {u = tt}).records none

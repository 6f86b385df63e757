use Rattle.table_writes.specs.Writing.{update_with}
use Rattle.txn_writes.proofs.WriteLaws.{puts, updated-made, updated-refused}
use Rattle.txn_writes.proofs.updates.set_in.Goals as goal

pub returns-in-Err : goal.returns-in-Err
returns-in-Err c =
    let update = update_with c.args.plan.now.select c.args.sets.now in
    updated-refused c.args.machine.now c.args.at update c.args.kept c.beside-other.result c.in-Err.refusal (c.beside-other.ensures update.table c.requires.opened.number_is) c.in-Err.ensures.refused

pub returns-in-Ok : goal.returns-in-Ok
returns-in-Ok c =
    let m = c.args.machine.now in
    let update = update_with c.args.plan.now.select c.args.sets.now in
    let o = c.requires.opened in
    let other = c.beside-other.ensures update.table o.number_is in
    let made = c.in-Ok.ensures in
    rw c.seen.ensures (
      puts m c.args.at update.table c.args.number c.args.kept c.update_rows.new.table _ c.requires.sound c.requires.within o made.origin,
      updated-made m c.args.at update c.args.number c.args.kept c.update_rows.new.table c.in-Ok.count c.beside-other.result o other made.welcome made.changed made.counted made.name,
    )

use Rattle.table_writes.specs.Writing.{delete_with}
use Rattle.txn_writes.proofs.WriteLaws.{deleted-made, puts}
use Rattle.txn_writes.proofs.deletes.remove_in.Goals as goal

pub returns-in-Ok : goal.returns-in-Ok
returns-in-Ok c =
    let m = c.args.machine.now in
    let delete = delete_with c.args.plan.now.select in
    let o = c.requires.opened in
    let made = c.in-Ok.ensures in
    rw c.seen.ensures (
      puts m c.args.at delete.table c.args.number c.args.kept c.delete_rows.new.table _ c.requires.sound c.requires.within o made.origin,
      deleted-made m c.args.at delete c.args.number c.args.kept c.delete_rows.new.table c.in-Ok.count o made.changed made.counted made.name,
    )

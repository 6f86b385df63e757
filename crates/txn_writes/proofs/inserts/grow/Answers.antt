use Rattle.std.proofs.Common.{SFits, rules, w64}
use Rattle.std.proofs.lemmas.Int.{to_z-of_z}
use Rattle.txn_writes.proofs.WriteLaws.{inserted-made, inserted-refused, puts}
use Rattle.txn_writes.proofs.inserts.grow.Goals as goal

pub returns-in-Err : goal.returns-in-Err
returns-in-Err c =
    let insert = c.args.insert.now in
    inserted-refused c.args.machine.now c.args.at insert c.args.kept c.beside.result c.in-Err.refusal (c.beside.ensures insert.table c.requires.opened.number_is) c.in-Err.ensures.refused

pub returns-in-Ok : goal.returns-in-Ok
returns-in-Ok c =
    let m = c.args.machine.now in
    let insert = c.args.insert.now in
    let o = c.requires.opened in
    let other = c.beside.ensures insert.table o.number_is in
    let made = c.in-Ok.ensures in
    let fits : SFits w64 c.in-Ok.last = search rules in
    rw (to_z-of_z w64 c.in-Ok.last fits, c.len.ensures, c.seen.ensures) (
      puts m c.args.at insert.table c.args.number c.args.kept c.insert_rows.new.table _ c.requires.sound c.requires.within o made.origin,
      inserted-made m c.args.at insert c.args.number c.args.kept c.insert_rows.new.table c.in-Ok.last c.beside.result o other made.grown made.last made.name,
    )

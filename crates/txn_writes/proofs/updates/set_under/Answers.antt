use Rattle.std.proofs.Common.{◌≡◌, None, refl, sym}
use Rattle.knn_plan.specs.Plans.{IsPlanFor}
use Rattle.row_model.specs.Check.{check_update}
use Rattle.shadow_records.specs.PlacedTables.{PlacedTable}
use Rattle.table_writes.specs.Writing.{update_with}
use Rattle.txn_writes.proofs.WriteLaws.{barred, makes, number-for, opened-for, updates-is, version-there}
use Rattle.txn_writes.proofs.updates.set_under.Goals as goal

pub opened-requires-clause-there : goal.opened-requires-clause-there
opened-requires-clause-there c = version-there c.args.machine.now c.args.at c.args.plan.now.select.table c.args.number c.requires.number

pub set_in-requires-clause-opened : goal.set_in-requires-clause-opened
set_in-requires-clause-opened c = c.in-Ok.ensures.kept c.args.plan.now.select.table c.requires.number

pub set_in-requires-clause-plan : goal.set_in-requires-clause-plan
set_in-requires-clause-plan c =
    let name = c.args.plan.now.select.table in
    opened-for (λ (t : PlacedTable). IsPlanFor t.schema.columns c.args.plan.now) c.args.machine.now c.args.at name c.args.number c.in-Ok.kept (c.in-Ok.ensures.kept name c.requires.number) c.requires.plan

pub set_in-requires-clause-checked : goal.set_in-requires-clause-checked
set_in-requires-clause-checked c =
    let name = c.args.plan.now.select.table in
    let update = update_with c.args.plan.now.select c.args.sets.now in
    opened-for (λ (t : PlacedTable). check_update t.schema.columns update ≡ None) c.args.machine.now c.args.at name c.args.number c.in-Ok.kept (c.in-Ok.ensures.kept name c.requires.number) c.requires.checked

pub returns-in-Err : goal.returns-in-Err
returns-in-Err c =
    let m = c.args.machine.now in
    let update = update_with c.args.plan.now.select c.args.sets.now in
    let n = c.requires.number in
    let fine = number-for (λ (t : PlacedTable). check_update t.schema.columns update ≡ None) m c.args.at update.table c.args.number n c.requires.checked in
    barred m c.args.at _ _ _ c.in-Err.refusal (updates-is m c.args.at update c.args.number n.from.version.table n refl) fine c.in-Err.ensures.refused

pub returns-in-Ok : goal.returns-in-Ok
returns-in-Ok c =
    let m = c.args.machine.now in
    let update = update_with c.args.plan.now.select c.args.sets.now in
    let o = c.in-Ok.ensures.kept update.table c.requires.number in
    let fine = opened-for (λ (t : PlacedTable). check_update t.schema.columns update ≡ None) m c.args.at update.table c.args.number c.in-Ok.kept o c.requires.checked in
    makes m c.args.at _ _ _ c.set_in.result (updates-is m c.args.at update c.args.number c.in-Ok.kept.version.table o.number_is (sym o.same)) fine c.in-Ok.ensures.free c.set_in.ensures

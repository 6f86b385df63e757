use Rattle.std.proofs.Common.{◌≡◌, None, sym}
use Rattle.knn_plan.specs.Plans.{IsPlanFor}
use Rattle.row_model.specs.Check.{check_delete}
use Rattle.shadow_records.specs.PlacedTables.{PlacedTable}
use Rattle.table_writes.specs.Writing.{delete_with}
use Rattle.txn_writes.proofs.WriteLaws.{deleted-barred, deletes-is, makes, number-for, opened-for, version-there}
use Rattle.txn_writes.proofs.deletes.remove_under.Goals as goal

pub opened-requires-clause-there : goal.opened-requires-clause-there
opened-requires-clause-there c = version-there c.args.machine.now c.args.at c.args.plan.now.select.table c.args.number c.requires.number

pub remove_in-requires-clause-opened : goal.remove_in-requires-clause-opened
remove_in-requires-clause-opened c = c.in-Ok.ensures.kept c.args.plan.now.select.table c.requires.number

pub remove_in-requires-clause-plan : goal.remove_in-requires-clause-plan
remove_in-requires-clause-plan c =
    let name = c.args.plan.now.select.table in
    opened-for (λ (t : PlacedTable). IsPlanFor t.schema.columns c.args.plan.now) c.args.machine.now c.args.at name c.args.number c.in-Ok.kept (c.in-Ok.ensures.kept name c.requires.number) c.requires.plan

pub returns-in-Err : goal.returns-in-Err
returns-in-Err c =
    let m = c.args.machine.now in
    let delete = delete_with c.args.plan.now.select in
    let n = c.requires.number in
    let fine = number-for (λ (t : PlacedTable). check_delete t.schema.columns delete ≡ None) m c.args.at delete.table c.args.number n c.requires.checked in
    deleted-barred m c.args.at delete c.args.number c.in-Err.refusal n fine c.in-Err.ensures.refused

pub returns-in-Ok : goal.returns-in-Ok
returns-in-Ok c =
    let m = c.args.machine.now in
    let delete = delete_with c.args.plan.now.select in
    let o = c.in-Ok.ensures.kept delete.table c.requires.number in
    let fine = opened-for (λ (t : PlacedTable). check_delete t.schema.columns delete ≡ None) m c.args.at delete.table c.args.number c.in-Ok.kept o c.requires.checked in
    makes m c.args.at _ _ _ c.remove_in.result (deletes-is m c.args.at delete c.args.number c.in-Ok.kept.version.table o.number_is (sym o.same)) fine c.in-Ok.ensures.free c.remove_in.ensures

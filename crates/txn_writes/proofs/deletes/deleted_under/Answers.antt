use Rattle.std.proofs.Common.{◌≡◌, ◌∙◌, None, ap, subst}
use Rattle.row_model.specs.Check.{check_delete}
use Rattle.row_model.specs.Step.{deletes, found}
use Rattle.row_model.specs.declared.statement.Delete.{Delete}
use Rattle.row_model.specs.declared.statement.Select.{Select}
use Rattle.row_model.proofs.SchemaLaws.{narrow_columns}
use Rattle.shadow_records.specs.PlacedTables.{PlacedTable}
use Rattle.table_writes.specs.Writing.{delete_with}
use Rattle.txn_sessions.specs.Seen.{session_at, state_of}
use Rattle.txn_writes.specs.inner.Makes.{Makes}
use Rattle.txn_writes.proofs.WriteLaws.{delete-is, deleted-faulted, seen-for, table-is}
use Rattle.txn_writes.proofs.deletes.deleted_under.Goals as goal

pub plan_delete-requires-clause-narrow : goal.plan_delete-requires-clause-narrow
plan_delete-requires-clause-narrow c = rw c.schema.ensures (narrow_columns c.version_seen-version.result.now.table.schema c.known.ensures.valid.schema)

pub remove_under-requires-clause-checked : goal.remove_under-requires-clause-checked
remove_under-requires-clause-checked c =
    let rows = c.in-Ok.ensures.rows in
    let v = c.version_seen-version.result.now in
    let same = delete-is c.args.delete c.in-Ok.plan.select (ap (λ (s : Select). s.table) rows) (ap (λ (s : Select). s.where_terms) rows) in
    seen-for (λ (t : PlacedTable). check_delete t.schema.columns (delete_with c.in-Ok.plan.select) ≡ None) c.args.machine.now c.args.at c.args.number v c.version_seen-version.ensures
    (ap (λ (d : Delete). check_delete v.table.schema.columns d) same ∙ rw c.schema.ensures at c.in-Ok.ensures.checked)

pub returns-in-Err : goal.returns-in-Err
returns-in-Err c =
    let m = c.args.machine.now in
    let v = c.version_seen-version.result.now in
    let delete = c.args.delete in
    let same = table-is m c.args.at delete.table c.args.number v c.requires.number c.version_seen-version.ensures in
    deleted-faulted m c.args.at delete c.args.number v.table c.in-Err.refusal c.requires.number same (rw c.schema.ensures at c.in-Err.ensures.refused)

pub returns-in-Ok : goal.returns-in-Ok
returns-in-Ok c =
    let m = c.args.machine.now in
    let rows = c.in-Ok.ensures.rows in
    let same = delete-is c.args.delete c.in-Ok.plan.select (ap (λ (s : Select). s.table) rows) (ap (λ (s : Select). s.where_terms) rows) in
    subst (λ (d : Delete). Makes m c.args.at (deletes d (state_of m) (session_at m c.args.at) (found d.table (state_of m) (session_at m c.args.at))) c.remove_under.result) same c.remove_under.ensures

use Rattle.std.proofs.Common.{◌≡◌, ◌∙◌, None, ap, subst}
use Rattle.row_model.specs.Check.{check_update}
use Rattle.row_model.specs.Step.{found, updates}
use Rattle.row_model.specs.declared.statement.Select.{Select}
use Rattle.row_model.specs.declared.statement.Update.{Update}
use Rattle.row_model.proofs.SchemaLaws.{narrow_columns}
use Rattle.shadow_records.specs.PlacedTables.{PlacedTable}
use Rattle.table_writes.specs.Writing.{update_with}
use Rattle.txn_sessions.specs.Seen.{session_at, state_of}
use Rattle.txn_writes.specs.inner.Makes.{Makes}
use Rattle.txn_writes.proofs.WriteLaws.{faulted, seen-for, table-is, update-is, updates-is}
use Rattle.txn_writes.proofs.updates.updated_under.Goals as goal

pub plan_update-requires-clause-narrow : goal.plan_update-requires-clause-narrow
plan_update-requires-clause-narrow c = rw c.schema.ensures (narrow_columns c.version_seen-version.result.now.table.schema c.known.ensures.valid.schema)

pub set_under-requires-clause-checked : goal.set_under-requires-clause-checked
set_under-requires-clause-checked c =
    let rows = c.in-Ok.ensures.rows in
    let v = c.version_seen-version.result.now in
    let same = update-is c.args.update c.in-Ok.plan.select c.in-Ok.sets (ap (λ (s : Select). s.table) rows) (ap (λ (s : Select). s.where_terms) rows) c.in-Ok.ensures.sets in
    seen-for (λ (t : PlacedTable). check_update t.schema.columns (update_with c.in-Ok.plan.select c.in-Ok.sets) ≡ None) c.args.machine.now c.args.at c.args.number v c.version_seen-version.ensures
    (ap (λ (u : Update). check_update v.table.schema.columns u) same ∙ rw c.schema.ensures at c.in-Ok.ensures.checked)

pub returns-in-Err : goal.returns-in-Err
returns-in-Err c =
    let m = c.args.machine.now in
    let v = c.version_seen-version.result.now in
    let update = c.args.update in
    let same = table-is m c.args.at update.table c.args.number v c.requires.number c.version_seen-version.ensures in
    faulted m c.args.at _ _ _ c.in-Err.refusal (updates-is m c.args.at update c.args.number v.table c.requires.number same) (rw c.schema.ensures at c.in-Err.ensures.refused)

pub returns-in-Ok : goal.returns-in-Ok
returns-in-Ok c =
    let m = c.args.machine.now in
    let rows = c.in-Ok.ensures.rows in
    let same = update-is c.args.update c.in-Ok.plan.select c.in-Ok.sets (ap (λ (s : Select). s.table) rows) (ap (λ (s : Select). s.where_terms) rows) c.in-Ok.ensures.sets in
    subst (λ (u : Update). Makes m c.args.at (updates u (state_of m) (session_at m c.args.at) (found u.table (state_of m) (session_at m c.args.at))) c.set_under.result) same c.set_under.ensures

use Rattle.std.proofs.Common.{◌≡◌, ◌<◌, ◌∙◌, ℤ, List, None, ap, ap₂, length, subst, sym}
use Rattle.std.specs.List.{AllByRecursion}
use Rattle.row_model.specs.Change.{update_refusals, with_rows}
use Rattle.row_model.specs.RefusalOrder.{first}
use Rattle.row_model.specs.Values.{meets_all}
use Rattle.row_model.specs.declared.row.Row.{Row}
use Rattle.row_model.specs.declared.statement.Assign.{Assign}
use Rattle.shadow_records.specs.PlacedTables.{plain, plain_rows}
use Rattle.table_writes.specs.Writing.{elsewhere_of, update_with}
use Rattle.table_writes.specs.inner.OneByOne.{one_by_one, set_one}
use Rattle.table_writes.specs.inner.SetColumns.{IsSettable}
use Rattle.table_writes.specs.inner.Updates.{IsUpdateOf}
use Rattle.table_writes.proofs.OneByOneLaws.{set_all_rows}
use Rattle.table_writes.proofs.RefusalLaws.{none_empty}
use Rattle.table_writes.proofs.UpdateLaws.{IsUpdatable, all_settable}
use Rattle.table_writes.proofs.update.update_rows.Goals as goal

pub set_rows-requires : goal.set_rows-requires
set_rows-requires c =
    let table = c.args.table.now.table in
    let columns = table.schema.columns in
    let update = update_with c.args.plan.now.select c.args.sets.now in
    let is : IsUpdatable table update c.in-Ok.rowids = record { placed = c.known.ensures; checked = c.requires.checked; met_are = c.in-Ok.ensures {u = tt} } in
    let of : IsUpdateOf table update c.as_slice.result.now c.as_slice-2.result.now = record { checked = c.requires.checked; sets_are = sym c.as_slice-2.ensures; met_are = c.as_slice.ensures ∙ c.in-Ok.ensures {u = tt} } in
    let none : first (update_refusals (elsewhere_of c.args.beside) (plain table) update) ≡ None =
    sym (c.update_refusal.ensures update of) ∙ c.in_default-update_refusal.is in
    record {
      sets = λ some. subst (λ (ss : List Assign). AllByRecursion (IsSettable columns) ss) (sym c.as_slice-4.ensures)
          (all_settable table update c.in-Ok.rowids (elsewhere_of c.args.beside) is none (subst (λ (ids : List ℤ). 0 < length ids) c.as_slice-3.ensures some));
    }

pub returns-in-Ok-set_rows-clause-changed : goal.returns-in-Ok-set_rows-clause-changed
returns-in-Ok-set_rows-clause-changed c =
    let table = c.args.table.now.table in
    let columns = table.schema.columns in
    let terms = c.args.plan.now.select.where_terms in
    let ids = c.as_slice-3.ensures ∙ c.in-Ok.ensures {u = tt} in
    (c.in-Ok-set_rows.ensures {u = tt}).changed
    ∙ ap₂ (λ (ss : List Assign) (is : List ℤ). with_rows (plain table) (one_by_one (set_one columns ss) is (plain_rows table.rows))) c.as_slice-4.ensures ids
    ∙ ap (with_rows (plain table)) (set_all_rows columns c.args.sets.now (λ (r : Row). meets_all columns terms r) (plain_rows table.rows) c.known.ensures.valid.rising)

pub returns-in-Ok-set_rows-clause-welcome : goal.returns-in-Ok-set_rows-clause-welcome
returns-in-Ok-set_rows-clause-welcome c =
    let table = c.args.table.now.table in
    let update = update_with c.args.plan.now.select c.args.sets.now in
    let of : IsUpdateOf table update c.as_slice.result.now c.as_slice-2.result.now = record { checked = c.requires.checked; sets_are = sym c.as_slice-2.ensures; met_are = c.as_slice.ensures ∙ c.in-Ok.ensures {u = tt} } in
    let none : first (update_refusals (elsewhere_of c.args.beside) (plain table) update) ≡ None =
    sym (c.update_refusal.ensures update of) ∙ c.in_default-update_refusal.is in
    none_empty (update_refusals (elsewhere_of c.args.beside) (plain table) update) none

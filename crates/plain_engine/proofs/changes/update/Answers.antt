use Rattle.std.proofs.Common.{◌≡◌, List, Some, None, ap, sym, ◌∙◌}
use Rattle.row_model.specs.declared.schema.Column.{Column}
use Rattle.row_model.specs.declared.request.Reply.TheVariants.{Changed}
use Rattle.row_model.specs.Check.{check_update}
use Rattle.plain_engine.specs.inner.TablePlaces.{IsTable}
use Rattle.row_model.proofs.SchemaLaws.{narrow_columns}
use Rattle.plain_engine.proofs.StatementLaws.{barred-by, made-by, not-barred, update-at}
use Rattle.plain_engine.proofs.TableLaws.{table_valid}
use Rattle.plain_engine.proofs.changes.update.Goals as goal

pub check_update-requires : goal.check_update-requires
check_update-requires c = record {
  narrow = rw c.as_slice.ensures (narrow_columns c.in-Some.found.table.now.schema
      (table_valid c.args.update.now.table c.args.catalog.now c.in-Some.found.table.now c.requires.valid (rw c.as_slice-tables.ensures at c.in-Some.ensures.table)).schema);
}

pub update_all-requires : goal.update_all-requires
update_all-requires c = record {
  valid = table_valid c.args.update.now.table c.args.catalog.now c.in-Some.found.table.now c.requires.valid (rw c.as_slice-tables.ensures at c.in-Some.ensures.table);
}

pub returns-in-Some-check_update : goal.returns-in-Some-check_update
returns-in-Some-check_update c =
    let update = c.args.update.now in
    let found : IsTable update.table c.args.catalog.now.tables c.in-Some.found.table.now = rw c.as_slice-tables.ensures at c.in-Some.ensures.table in
    let fault : check_update c.in-Some.found.table.now.schema.columns update ≡ Some c.in-Some-check_update.refusal =
    ap (λ (columns : List Column). check_update columns update) (sym c.as_slice.ensures) ∙ sym c.check_update.ensures ∙ c.in-Some-check_update.is in
    sym (update-at update c.args.catalog.now c.args.bar c.in-Some.found.table.now found ∙ barred-by _ c.in-Some-check_update.refusal _ fault)

pub returns-in-Some-bar : goal.returns-in-Some-bar
returns-in-Some-bar c =
    let update = c.args.update.now in
    let found : IsTable update.table c.args.catalog.now.tables c.in-Some.found.table.now = rw c.as_slice-tables.ensures at c.in-Some.ensures.table in
    let fine : check_update c.in-Some.found.table.now.schema.columns update ≡ None =
    ap (λ (columns : List Column). check_update columns update) (sym c.as_slice.ensures) ∙ sym c.check_update.ensures ∙ c.in_default-check_update.is in
    sym (update-at update c.args.catalog.now c.args.bar c.in-Some.found.table.now found ∙ not-barred _ _ fine ∙ barred-by c.args.bar c.in-Some-bar.refusal _ c.in-Some-bar.is)

pub returns-in_ok-new-in-Ok : goal.returns-in_ok-new-in-Ok
returns-in_ok-new-in-Ok c =
    let update = c.args.update.now in
    let found : IsTable update.table c.args.catalog.now.tables c.in-Some.found.table.now = rw c.as_slice-tables.ensures at c.in-Some.ensures.table in
    let fine : check_update c.in-Some.found.table.now.schema.columns update ≡ None =
    ap (λ (columns : List Column). check_update columns update) (sym c.as_slice.ensures) ∙ sym c.check_update.ensures ∙ c.in_default-check_update.is in
    let free = update-at update c.args.catalog.now c.args.bar c.in-Some.found.table.now found ∙ not-barred _ _ fine ∙ not-barred c.args.bar _ c.in_default-bar.is in
    let made = rw (c.in-Ok.is, c.as_slice-tables.ensures) at c.in_ok-edited.ensures.edited in
    let new = rw c.as_slice-tables.ensures at (c.in_ok-new-in-Ok.ensures update.table c.in-Some.ensures.at) in
    made-by _ _ (Changed c.in-Ok.edited.count) _ c.in_ok-new-in-Ok.new free made new

pub returns-in-Err : goal.returns-in-Err
returns-in-Err c =
    let update = c.args.update.now in
    let found : IsTable update.table c.args.catalog.now.tables c.in-Some.found.table.now = rw c.as_slice-tables.ensures at c.in-Some.ensures.table in
    let fine : check_update c.in-Some.found.table.now.schema.columns update ≡ None =
    ap (λ (columns : List Column). check_update columns update) (sym c.as_slice.ensures) ∙ sym c.check_update.ensures ∙ c.in_default-check_update.is in
    let free = update-at update c.args.catalog.now c.args.bar c.in-Some.found.table.now found ∙ not-barred _ _ fine ∙ not-barred c.args.bar _ c.in_default-bar.is in
    sym (free ∙ rw (c.in-Err.is, c.as_slice-tables.ensures) at c.in_ok-edited.ensures.refused)

use Rattle.std.proofs.Common.{◌≡◌, List, Some, None, Ok, ap, sym, ◌∙◌}
use Rattle.row_model.specs.declared.schema.Column.{Column}
use Rattle.row_model.specs.declared.request.Reply.TheVariants.{Changed}
use Rattle.row_model.specs.Check.{check_delete}
use Rattle.plain_engine.specs.inner.TablePlaces.{IsTable}
use Rattle.row_model.proofs.SchemaLaws.{narrow_columns}
use Rattle.plain_engine.proofs.StatementLaws.{barred-by, delete-at, made-by, not-barred}
use Rattle.plain_engine.proofs.TableLaws.{table_valid}
use Rattle.plain_engine.proofs.changes.delete.Goals as goal

pub check_delete-requires : goal.check_delete-requires
check_delete-requires c = record {
  narrow = rw c.as_slice.ensures (narrow_columns c.in-Some.found.table.now.schema
      (table_valid c.args.delete.now.table c.args.catalog.now c.in-Some.found.table.now c.requires.valid (rw c.as_slice-tables.ensures at c.in-Some.ensures.table)).schema);
}

pub delete_all-requires : goal.delete_all-requires
delete_all-requires c = record {
  valid = table_valid c.args.delete.now.table c.args.catalog.now c.in-Some.found.table.now c.requires.valid (rw c.as_slice-tables.ensures at c.in-Some.ensures.table);
}

pub returns-in-Some-check_delete : goal.returns-in-Some-check_delete
returns-in-Some-check_delete c =
    let delete = c.args.delete.now in
    let found : IsTable delete.table c.args.catalog.now.tables c.in-Some.found.table.now = rw c.as_slice-tables.ensures at c.in-Some.ensures.table in
    let fault : check_delete c.in-Some.found.table.now.schema.columns delete ≡ Some c.in-Some-check_delete.refusal =
    ap (λ (columns : List Column). check_delete columns delete) (sym c.as_slice.ensures) ∙ sym c.check_delete.ensures ∙ c.in-Some-check_delete.is in
    sym (delete-at delete c.args.catalog.now c.args.bar c.in-Some.found.table.now found ∙ barred-by _ c.in-Some-check_delete.refusal _ fault)

pub returns-in-Some-bar : goal.returns-in-Some-bar
returns-in-Some-bar c =
    let delete = c.args.delete.now in
    let found : IsTable delete.table c.args.catalog.now.tables c.in-Some.found.table.now = rw c.as_slice-tables.ensures at c.in-Some.ensures.table in
    let fine : check_delete c.in-Some.found.table.now.schema.columns delete ≡ None =
    ap (λ (columns : List Column). check_delete columns delete) (sym c.as_slice.ensures) ∙ sym c.check_delete.ensures ∙ c.in_default-check_delete.is in
    sym (delete-at delete c.args.catalog.now c.args.bar c.in-Some.found.table.now found ∙ not-barred _ _ fine ∙ barred-by c.args.bar c.in-Some-bar.refusal _ c.in-Some-bar.is)

pub returns : goal.returns
returns c =
    let delete = c.args.delete.now in
    let found : IsTable delete.table c.args.catalog.now.tables c.in-Some.found.table.now = rw c.as_slice-tables.ensures at c.in-Some.ensures.table in
    let fine : check_delete c.in-Some.found.table.now.schema.columns delete ≡ None =
    ap (λ (columns : List Column). check_delete columns delete) (sym c.as_slice.ensures) ∙ sym c.check_delete.ensures ∙ c.in_default-check_delete.is in
    let free = delete-at delete c.args.catalog.now c.args.bar c.in-Some.found.table.now found ∙ not-barred _ _ fine ∙ not-barred c.args.bar _ c.in_default-bar.is in
    let new = rw c.as_slice-tables.ensures at (c.in_ok-new.ensures delete.table c.in-Some.ensures.at) in
    made-by _ _ (Changed c.in_ok-edited.edited.count) _ c.in_ok-new.new free (ap (λ z. Ok z) (c.in_ok-edited.ensures c.args.catalog.now)) new

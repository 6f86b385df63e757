use Rattle.std.proofs.Common.{◌≡◌, List, Some, None, ap, sym, ◌∙◌}
use Rattle.row_model.specs.declared.schema.Column.{Column}
use Rattle.row_model.specs.declared.request.Reply.{Reply}
use Rattle.row_model.specs.Check.{check_select}
use Rattle.row_model.specs.Answer.{shape_of}
use Rattle.row_model.specs.declared.request.Shape.{Shape}
use Rattle.row_model.specs.declared.request.Reply.TheVariants.{Planned}
use Rattle.plain_engine.specs.inner.TablePlaces.{IsTable}
use Rattle.row_model.proofs.SchemaLaws.{narrow_columns}
use Rattle.plain_engine.proofs.StatementLaws.{explain-done, explain-faulted}
use Rattle.plain_engine.proofs.TableLaws.{table_valid}
use Rattle.plain_engine.proofs.reads.explain.Goals as goal

pub check_select-requires : goal.check_select-requires
check_select-requires c = record {
  narrow = rw c.as_slice-columns.ensures (narrow_columns c.in-Some.found.table.now.schema
      (table_valid c.args.select.now.table c.args.catalog.now c.in-Some.found.table.now c.requires.valid (rw c.as_slice.ensures at c.in-Some.ensures.table)).schema);
}

pub shape_of-requires-in-None : goal.shape_of-requires-in-None
shape_of-requires-in-None c = record {
  narrow = rw c.as_slice-columns.ensures (narrow_columns c.in-Some.found.table.now.schema
      (table_valid c.args.select.now.table c.args.catalog.now c.in-Some.found.table.now c.requires.valid (rw c.as_slice.ensures at c.in-Some.ensures.table)).schema);
}

pub returns-in-Some-check_select : goal.returns-in-Some-check_select
returns-in-Some-check_select c = λ state.
    let select = c.args.select.now in
    let found : IsTable select.table c.args.catalog.now.tables c.in-Some.found.table.now = rw c.as_slice.ensures at c.in-Some.ensures.table in
    let fault : check_select c.in-Some.found.table.now.schema.columns select ≡ Some c.in-Some-check_select.refusal =
    ap (λ (columns : List Column). check_select columns select) (sym c.as_slice-columns.ensures) ∙ sym c.check_select.ensures ∙ c.in-Some-check_select.is in
    explain-faulted state select c.args.catalog.now.tables c.in-Some.found.table.now c.in-Some-check_select.refusal found fault

pub returns-in-None : goal.returns-in-None
returns-in-None c = λ state.
    let select = c.args.select.now in
    let found : IsTable select.table c.args.catalog.now.tables c.in-Some.found.table.now = rw c.as_slice.ensures at c.in-Some.ensures.table in
    let fine : check_select c.in-Some.found.table.now.schema.columns select ≡ None =
    ap (λ (columns : List Column). check_select columns select) (sym c.as_slice-columns.ensures) ∙ sym c.check_select.ensures ∙ c.in-None.is in
    let shape : shape_of c.in-Some.found.table.now.schema.columns select ≡ c.shape_of.result = sym (rw c.as_slice-columns.ensures at c.shape_of.ensures) in
    explain-done state select c.args.catalog.now.tables c.in-Some.found.table.now found fine ∙ ap (λ (s : Shape). (let reply : Reply = Planned s in reply, state)) shape

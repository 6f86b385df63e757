use Rattle.std.proofs.Common.{◌≡◌, List, Some, None, Ok, ap, sym, ◌∙◌}
use Rattle.row_model.specs.declared.schema.Column.{Column}
use Rattle.row_model.specs.Check.{check_select}
use Rattle.plain_engine.specs.inner.TablePlaces.{IsTable}
use Rattle.row_model.proofs.SchemaLaws.{narrow_columns}
use Rattle.plain_engine.proofs.StatementLaws.{cursor-at, refused-by, not-refused}
use Rattle.plain_engine.proofs.TableLaws.{table_valid}
use Rattle.plain_engine.proofs.cursors.cursor_rows.Goals as goal

pub check_select-requires : goal.check_select-requires
check_select-requires c = record {
  narrow = rw c.as_slice-2.ensures (narrow_columns c.in-Some.found.table.now.schema
      (table_valid c.args.select.now.table c.args.catalog.now c.in-Some.found.table.now c.requires.valid (rw c.as_slice.ensures at c.in-Some.ensures.table)).schema);
}

pub returns-in-Some-check_select : goal.returns-in-Some-check_select
returns-in-Some-check_select c =
    let select = c.args.select.now in
    let found : IsTable select.table c.args.catalog.now.tables c.in-Some.found.table.now = rw c.as_slice.ensures at c.in-Some.ensures.table in
    let fault : check_select c.in-Some.found.table.now.schema.columns select ≡ Some c.in-Some-check_select.refusal =
    ap (λ (columns : List Column). check_select columns select) (sym c.as_slice-2.ensures) ∙ sym c.check_select.ensures ∙ c.in-Some-check_select.is in
    sym (cursor-at select c.args.full c.args.catalog.now.tables c.in-Some.found.table.now found ∙ refused-by _ c.in-Some-check_select.refusal _ fault)

pub returns-in-Some-full : goal.returns-in-Some-full
returns-in-Some-full c =
    let select = c.args.select.now in
    let found : IsTable select.table c.args.catalog.now.tables c.in-Some.found.table.now = rw c.as_slice.ensures at c.in-Some.ensures.table in
    let fine : check_select c.in-Some.found.table.now.schema.columns select ≡ None =
    ap (λ (columns : List Column). check_select columns select) (sym c.as_slice-2.ensures) ∙ sym c.check_select.ensures ∙ c.in_default-check_select.is in
    sym (cursor-at select c.args.full c.args.catalog.now.tables c.in-Some.found.table.now found ∙ not-refused _ _ fine ∙ refused-by c.args.full c.in-Some-full.refusal _ c.in-Some-full.is)

pub answer-requires-clause-valid : goal.answer-requires-clause-valid
answer-requires-clause-valid c =
    table_valid c.args.select.now.table c.args.catalog.now c.in-Some.found.table.now c.requires.valid (rw c.as_slice.ensures at c.in-Some.ensures.table)

pub answer-requires-clause-checked : goal.answer-requires-clause-checked
answer-requires-clause-checked c =
    ap (λ (columns : List Column). check_select columns c.args.select.now) (sym c.as_slice-2.ensures) ∙ sym c.check_select.ensures ∙ c.in_default-check_select.is

pub returns : goal.returns
returns c =
    let select = c.args.select.now in
    let found : IsTable select.table c.args.catalog.now.tables c.in-Some.found.table.now = rw c.as_slice.ensures at c.in-Some.ensures.table in
    let fine : check_select c.in-Some.found.table.now.schema.columns select ≡ None =
    ap (λ (columns : List Column). check_select columns select) (sym c.as_slice-2.ensures) ∙ sym c.check_select.ensures ∙ c.in_default-check_select.is in
    ap (λ rows. Ok rows) c.in_ok-answer.ensures
    ∙ sym (cursor-at select c.args.full c.args.catalog.now.tables c.in-Some.found.table.now found ∙ not-refused _ _ fine ∙ not-refused c.args.full _ c.in_default-full.is)

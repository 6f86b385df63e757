use Rattle.std.proofs.Common.{◌≡◌, List, None, inl, ap, sym, ◌∙◌, rules}
use Rattle.row_model.specs.declared.schema.Column.{Column}
use Rattle.row_model.specs.Check.{check_select}
use Rattle.plain_engine.specs.inner.TablePlaces.{IsTable}
use Rattle.row_model.proofs.SchemaLaws.{narrow_columns}
use Rattle.plain_engine.proofs.StatementLaws.{select-faulted, select-many, select-done}
use Rattle.plain_engine.proofs.TableLaws.{table_valid}
use Rattle.plain_engine.proofs.reads.select.Goals as goal

pub check_select-requires : goal.check_select-requires
check_select-requires c = record {
  narrow = rw c.as_slice-2.ensures (narrow_columns c.in-Some.found.table.now.schema
      (table_valid c.args.select.now.table c.args.catalog.now c.in-Some.found.table.now c.requires.valid (rw c.as_slice.ensures at c.in-Some.ensures.table)).schema);
}

pub returns-in-Some-check_select : goal.returns-in-Some-check_select
returns-in-Some-check_select c =
    let found : IsTable c.args.select.now.table c.args.catalog.now.tables c.in-Some.found.table.now = rw c.as_slice.ensures at c.in-Some.ensures.table in
    λ state. inl (select-faulted state c.args.select.now c.args.catalog.now.tables c.in-Some.found.table.now c.in-Some-check_select.refusal found
    (ap (λ (columns : List Column). check_select columns c.args.select.now) (sym c.as_slice-2.ensures) ∙ sym c.check_select.ensures ∙ c.in-Some-check_select.is))

pub answer-requires-clause-valid : goal.answer-requires-clause-valid
answer-requires-clause-valid c =
    table_valid c.args.select.now.table c.args.catalog.now c.in-Some.found.table.now c.requires.valid (rw c.as_slice.ensures at c.in-Some.ensures.table)

pub answer-requires-clause-checked : goal.answer-requires-clause-checked
answer-requires-clause-checked c =
    ap (λ (columns : List Column). check_select columns c.args.select.now) (sym c.as_slice-2.ensures) ∙ sym c.check_select.ensures ∙ c.in_default-check_select.is

pub returns-in-Some-too_many : goal.returns-in-Some-too_many
returns-in-Some-too_many c =
    let found : IsTable c.args.select.now.table c.args.catalog.now.tables c.in-Some.found.table.now = rw c.as_slice.ensures at c.in-Some.ensures.table in
    let fine : check_select c.in-Some.found.table.now.schema.columns c.args.select.now ≡ None =
    ap (λ (columns : List Column). check_select columns c.args.select.now) (sym c.as_slice-2.ensures) ∙ sym c.check_select.ensures ∙ c.in_default-check_select.is in
    λ state. inl (select-many state c.args.select.now c.args.catalog.now.tables c.in-Some.found.table.now c.in-Ok.rows c.in-Some-too_many.refusal found fine c.in-Ok.ensures (search rules))

pub returns : goal.returns
returns c =
    let found : IsTable c.args.select.now.table c.args.catalog.now.tables c.in-Some.found.table.now = rw c.as_slice.ensures at c.in-Some.ensures.table in
    let fine : check_select c.in-Some.found.table.now.schema.columns c.args.select.now ≡ None =
    ap (λ (columns : List Column). check_select columns c.args.select.now) (sym c.as_slice-2.ensures) ∙ sym c.check_select.ensures ∙ c.in_default-check_select.is in
    λ state. inl (select-done state c.args.select.now c.args.catalog.now.tables c.in-Some.found.table.now c.in-Ok.rows found fine c.in-Ok.ensures (search rules))

use Rattle.std.proofs.Common.{◌≡◌, None, ◌∙◌, ap, List}
use Rattle.std.specs.Option.{option_map}
use Rattle.row_model.specs.Answer.{target_of}
use Rattle.row_model.specs.Check.{check_delete, check_select}
use Rattle.row_model.specs.declared.schema.Column.{Column}
use Rattle.row_model.specs.declared.statement.Select.{Select}
use Rattle.knn_plan.specs.Plans.{planned_target}
use Rattle.knn_plan.proofs.ChangeLaws.{told, delete_rows}
use Rattle.knn_plan.proofs.TargetLaws.{no_target}
use Rattle.knn_plan.proofs.plan.plan_delete.Goals as goal

pub returns-in-Some-clause-refused : goal.returns-in-Some-clause-refused
returns-in-Some-clause-refused c = told (λ (columns : List Column). check_delete columns c.args.delete) _ _ _ _ c.as_slice-columns.ensures c.check_delete.ensures c.in-Some.is

pub planned-requires-clause-checked : goal.planned-requires-clause-checked
planned-requires-clause-checked c =
    let taken : check_delete c.args.schema.now.columns c.args.delete ≡ None = told (λ (columns : List Column). check_delete columns c.args.delete) _ _ _ _ c.as_slice-columns.ensures c.check_delete.ensures c.in-None.is in
    ap (λ (columns : List Column). check_select columns c.rows_with.result) c.as_slice-columns.ensures
    ∙ ap (λ (select : Select). check_select c.args.schema.now.columns select) c.rows_with.ensures
    ∙ (delete_rows c.args.schema.now.columns c.args.delete taken).0

pub returns-in-None-clause-checked : goal.returns-in-None-clause-checked
returns-in-None-clause-checked c = told (λ (columns : List Column). check_delete columns c.args.delete) _ _ _ _ c.as_slice-columns.ensures c.check_delete.ensures c.in-None.is

pub returns-in-None-clause-plan : goal.returns-in-None-clause-plan
returns-in-None-clause-plan c = rw (← c.as_slice-columns.ensures) c.planned.ensures.plan

pub returns-in-None-clause-no_target : goal.returns-in-None-clause-no_target
returns-in-None-clause-no_target c =
    let columns = c.args.schema.now.columns in
    let taken : check_delete c.args.schema.now.columns c.args.delete ≡ None = told (λ (columns : List Column). check_delete columns c.args.delete) _ _ _ _ c.as_slice-columns.ensures c.check_delete.ensures c.in-None.is in
    let plan = rw (c.as_slice-columns.ensures) at c.planned.ensures.plan in
    plan.target
    ∙ ap (λ (select : Select). option_map (planned_target columns) (target_of columns select.where_terms)) (c.planned.ensures.select ∙ c.rows_with.ensures)
    ∙ ap (option_map (planned_target columns)) (no_target columns c.args.delete.where_terms (delete_rows columns c.args.delete taken).1)

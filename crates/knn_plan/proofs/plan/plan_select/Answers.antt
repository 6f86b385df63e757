use Rattle.std.proofs.Common.{List}
use Rattle.row_model.specs.Check.{check_select}
use Rattle.row_model.specs.declared.schema.Column.{Column}
use Rattle.knn_plan.proofs.ChangeLaws.{told}
use Rattle.knn_plan.proofs.plan.plan_select.Goals as goal

pub returns-in-Some-clause-refused : goal.returns-in-Some-clause-refused
returns-in-Some-clause-refused c = told (λ (columns : List Column). check_select columns c.args.select) _ _ _ _ c.as_slice-columns.ensures c.check_select.ensures c.in-Some.is

pub returns-in-None-clause-plan : goal.returns-in-None-clause-plan
returns-in-None-clause-plan c = rw (← c.as_slice-columns.ensures) c.planned.ensures.plan

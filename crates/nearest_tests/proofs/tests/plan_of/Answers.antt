use Rattle.std.proofs.Common.{subst}
use Rattle.row_model.specs.declared.schema.Schema.{Schema}
use Rattle.knn_plan.specs.Plans.{IsPlanFor}
use Rattle.nearest_tests.proofs.tests.plan_of.Goals as goal

pub returns-in-Ok : goal.returns-in-Ok
returns-in-Ok c = subst (λ (s : Schema). IsPlanFor s.columns c.in-Ok.plan) c.schema.ensures c.in-Ok.ensures.plan

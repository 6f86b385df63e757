use Rattle.std.proofs.Common.{rules, ◌≡◌, ◌≤◌, length, sym, subst}
use Rattle.row_model.specs.declared.schema.Schema.{Schema}
use Rattle.row_model.specs.declared.schema.TheConstants.{MOST_COLUMNS}
use Rattle.row_model.proofs.SchemaLaws.{narrow_columns}
use Rattle.knn_plan.specs.Plans.{IsPlanFor}
use Rattle.write_tests.proofs.tables.remove.Goals as goal

pub plan_delete-requires-clause-narrow : goal.plan_delete-requires-clause-narrow
plan_delete-requires-clause-narrow c =
    let same : c.schema.result.now ≡ c.args.version.now.table.schema = search rules in
    subst (λ (s : Schema). length s.columns ≤ MOST_COLUMNS) (sym same) (narrow_columns c.args.version.now.table.schema c.known.ensures.valid.schema)

pub delete_rows-requires : goal.delete_rows-requires
delete_rows-requires c =
    let same : c.schema.result.now ≡ c.args.version.now.table.schema = search rules in
    record { plan = subst (λ (s : Schema). IsPlanFor s.columns c.in-Ok.plan) same ((c.in-Ok.ensures {u = tt}).plan) }

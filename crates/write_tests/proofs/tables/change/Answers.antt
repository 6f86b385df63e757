use Rattle.std.proofs.Common.{rules, ◌≡◌, ◌≤◌, ◌∙◌, List, length, ap, sym, subst}
use Rattle.row_model.specs.Check.{check_update}
use Rattle.row_model.specs.declared.schema.Schema.{Schema}
use Rattle.row_model.specs.declared.schema.TheConstants.{MOST_COLUMNS}
use Rattle.row_model.specs.declared.statement.Assign.{Assign}
use Rattle.row_model.specs.declared.statement.Select.{Select}
use Rattle.row_model.proofs.SchemaLaws.{narrow_columns}
use Rattle.knn_plan.specs.Plans.{IsPlanFor}
use Rattle.table_writes.specs.Writing.{update_with}
use Rattle.write_tests.proofs.tables.change.Goals as goal

pub plan_update-requires-clause-narrow : goal.plan_update-requires-clause-narrow
plan_update-requires-clause-narrow c =
    let same : c.schema.result.now ≡ c.args.version.now.table.schema = search rules in
    subst (λ (s : Schema). length s.columns ≤ MOST_COLUMNS) (sym same) (narrow_columns c.args.version.now.table.schema c.known.ensures.valid.schema)

pub update_rows-requires-clause-plan : goal.update_rows-requires-clause-plan
update_rows-requires-clause-plan c =
    let same : c.schema.result.now ≡ c.args.version.now.table.schema = search rules in
    subst (λ (s : Schema). IsPlanFor s.columns c.in-Ok.plan) same ((c.in-Ok.ensures {u = tt}).plan)

pub update_rows-requires-clause-checked : goal.update_rows-requires-clause-checked
update_rows-requires-clause-checked c =
    let same : c.schema.result.now ≡ c.args.version.now.table.schema = search rules in
    let made = c.in-Ok.ensures {u = tt} in
    ap (λ (s : Select). check_update c.args.version.now.table.schema.columns (update_with s c.in-Ok.sets)) made.rows
    ∙ ap (λ (ss : List Assign). check_update c.args.version.now.table.schema.columns (record c.args.update { sets = ss })) made.sets
    ∙ ap (λ (s : Schema). check_update s.columns c.args.update) (sym same)
    ∙ made.checked

use Rattle.std.proofs.Common.{rules, ◌≡◌, ◌≤◌, length, sym, subst}
use Rattle.row_model.specs.declared.schema.Schema.{Schema}
use Rattle.row_model.specs.declared.schema.TheConstants.{MOST_COLUMNS}
use Rattle.row_model.proofs.SchemaLaws.{narrow_columns}
use Rattle.answer_tests.proofs.tables.planned.Goals as goal

pub plan_select-requires-clause-narrow : goal.plan_select-requires-clause-narrow
plan_select-requires-clause-narrow c =
    let same : c.schema.result.now ≡ c.args.version.now.table.schema = search rules in
    subst (λ (s : Schema). length s.columns ≤ MOST_COLUMNS) (sym same) (narrow_columns c.args.version.now.table.schema c.known.ensures.valid.schema)

use Rattle.std.proofs.Common.{◌≡◌, Some, subst}
use Rattle.std.specs.Prelude.{IfErr}
use Rattle.vec_base.specs.declared.refusal.Refusal.{Refusal}
use Rattle.row_model.proofs.SchemaLaws.{narrow_columns}
use Rattle.row_model.specs.Check.{check_select}
use Rattle.row_model.specs.declared.schema.Schema.{Schema}
use Rattle.txn_reads.proofs.seen.plan_over.Goals as goal

pub plan_select-requires-clause-narrow : goal.plan_select-requires-clause-narrow
plan_select-requires-clause-narrow c = rw c.schema.ensures (narrow_columns c.args.table.now.table.schema c.known.ensures.valid.schema)

pub returns-clause-refused : goal.returns-clause-refused
returns-clause-refused c =
    let same : c.schema.result.now ≡ c.args.table.now.table.schema = c.schema.ensures in
    subst (λ (s : Schema). IfErr c.plan_select.result (λ (r : Refusal). check_select s.columns c.args.select ≡ Some r)) same c.plan_select.ensures.refused

use Rattle.std.proofs.Common.{rules, ◌≡◌, ◌<◌, ◌⊎◌, inl, inr, length, Some, sym, ap, ◌∙◌}
use Rattle.std.proofs.lemmas.Result.{IfErr-weaker}
use Rattle.vec_base.specs.declared.limits.TheConstants.{MOST_REPLY_ROWS}
use Rattle.vec_base.specs.declared.refusal.Refusal.{Refusal}
use Rattle.vec_base.specs.declared.refusal.Refusal.TheVariants.{TooManyRows, WantOfMemory}
use Rattle.row_model.specs.Answer.{answer}
use Rattle.row_model.specs.RefusalOrder.{first}
use Rattle.row_model.specs.Step.{too_many}
use Rattle.shadow_records.specs.PlacedTables.{plain}
use Rattle.table_answers.proofs.ShapeFacts.{few_welcome, many_refused, nearest_welcome, scan_plain}
use Rattle.table_answers.proofs.PointFacts.{point_few}
use Rattle.table_answers.proofs.select.select_rows.Goals as goal

pub returns-in-Ok-clause-few : goal.returns-in-Ok-clause-few
returns-in-Ok-clause-few g c =
    nearest_welcome c.args.table.now.table.schema.columns c.args.plan.now (length (answer (plain c.args.table.now.table) c.args.plan.now.select)) c.requires.plan (search rules)

pub returns-in-Ok-point_rows-clause-few : goal.returns-in-Ok-point_rows-clause-few
returns-in-Ok-point_rows-clause-few g c =
    few_welcome c.args.plan.now.select (length (answer (plain c.args.table.now.table) c.args.plan.now.select)) (point_few c.args.table.now.table c.args.plan.now c.known.ensures c.requires.plan (search rules))

pub returns-in-Scan-clause-refused : goal.returns-in-Scan-clause-refused
returns-in-Scan-clause-refused g c =
    let table = c.args.table.now.table in
    let plan = c.args.plan.now in
    let many : (refusal : Refusal) → ((refusal ≡ TooManyRows (length (answer (plain table) plan.select))) × (MOST_REPLY_ROWS < length (answer (plain table) plan.select))) ⊎ (refusal ≡ WantOfMemory) →
    (first (too_many plan.select (length (answer (plain table) plan.select))) ≡ Some refusal) ⊎ (refusal ≡ WantOfMemory) =
    λ refusal is. elim is [
      | inl more ↦ inl (many_refused table.schema.columns plan (length (answer (plain table) plan.select)) c.requires.plan (scan_plain table.schema.columns plan c.requires.plan (search rules)) more.1 ∙ ap (λ r. Some r) (sym more.0))
      | inr starved ↦ inr starved
    ] in
    IfErr-weaker c.scan_rows.result _ _ many c.scan_rows.ensures.refused

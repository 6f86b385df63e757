use Rattle.std.proofs.Common.{Err, Some, refl, subst, sym, ◌∙◌, ap, ℕ}
use Rattle.vec_base.specs.declared.refusal.Refusal.{Refusal}
use Rattle.row_model.specs.declared.schema.Schema.{Schema}
use Rattle.vec_base.specs.Answers.{Gives}
use Rattle.vec_base.specs.declared.refusal.Refusal.TheVariants.{WantOfMemory}
use Rattle.vec0_columns.specs.ColumnReading.{answer_of}
use Rattle.sql_reader.proofs.MeaningLaws.{created, rule_broken}
use Rattle.sql_reader.proofs.statement_meaning.create_of.Goals as goal

pub returns-in-Ok : goal.returns-in-Ok
returns-in-Ok c params = created params c.args.table c.args.table c.args.columns.now c.in-Ok.schema refl c.in-Ok.ensures.answer

pub returns-in-Err-BadSchema : goal.returns-in-Err-BadSchema
returns-in-Err-BadSchema c params =
    let broken = rule_broken params c.args.table c.args.columns.now c.in-Err-BadSchema.rule
    (subst (λ (e : Refusal). Gives {A = Schema} WantOfMemory (Err e) (answer_of c.args.columns.now)) c.in-Err-BadSchema.field-0-is c.in-Err-BadSchema.ensures.answer) in
    (tt, broken.1 ∙ ap (λ (n : ℕ). Some n) (sym c.in-Err-BadSchema.rule-is))

use Rattle.std.proofs.Common.{rules, ◌≡◌, ⊎_elim}
use Rattle.vec_base.specs.declared.refusal.Refusal.TheVariants.{WantOfMemory}
use Rattle.vec0_columns.specs.ColumnReading.{IsRefusal}
use Rattle.table_attach.proofs.SchemaTexts.{declared_only, refused_none}
use Rattle.table_attach.proofs.info.read_schema.Goals as goal

pub returns-in-Ok-clause-only : goal.returns-in-Ok-clause-only
returns-in-Ok-clause-only c other valid e = declared_only c.args.text.now c.in-Ok.schema c.in-Ok.ensures.exact.value other valid e

pub returns-in-Err : goal.returns-in-Err
returns-in-Err c =
    let other : c.in-Err.field-0 ≡ WantOfMemory → ⊥ = search rules in
    record {
      valid = tt;
      only = tt;
      none = λ damaged schema valid e. (
          let refusal : IsRefusal c.args.text.now c.in-Err.field-0 = ⊎_elim (λ (z : c.in-Err.field-0 ≡ WantOfMemory). absurd (other z)) (λ (z : IsRefusal c.args.text.now c.in-Err.field-0). z) c.in-Err.ensures.exact.error in
          refused_none c.args.text.now c.in-Err.field-0 refusal schema valid e);
    }

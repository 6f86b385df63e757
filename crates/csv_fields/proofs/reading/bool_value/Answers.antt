use Rattle.std.proofs.Common.{refl, inl, inr}
use Rattle.std.specs.Prelude.{pos}
use Rattle.vec_base.specs.declared.value.Value.TheVariants.{Int}
use Rattle.csv_fields.specs.Fields.{IsBoolField}
use Rattle.csv_fields.proofs.FieldLaws.{is_read, one_bool}
use Rattle.csv_fields.proofs.reading.bool_value.Goals as goal

pub returns-in-text : goal.returns-in-text
returns-in-text c = record { exact = is_read (IsBoolField c.args.field.now) (one_bool c.args.field.now) (Int (pos 0)) (inl (c.in-text.is, refl)) }

pub returns-in-text-2 : goal.returns-in-text-2
returns-in-text-2 c = record { exact = is_read (IsBoolField c.args.field.now) (one_bool c.args.field.now) (Int (pos 1)) (inr (c.in-text-2.is, refl)) }

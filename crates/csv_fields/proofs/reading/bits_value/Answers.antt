use Rattle.std.proofs.Common.{refl}
use Rattle.vec_base.specs.declared.value.Value.TheVariants.{Bits}
use Rattle.csv_fields.specs.Fields.{IsBitsField}
use Rattle.csv_fields.proofs.FieldLaws.{is_read, one_bits}
use Rattle.csv_fields.proofs.reading.bits_value.Goals as goal

pub returns : goal.returns
returns c = record {
  exact = is_read (IsBitsField c.args.field.now) (one_bits c.args.field.now) (Bits c.in_ok-read_bits.field-0)
      (c.in_ok-read_bits.field-0, rw c.as_bytes.ensures.value at c.in_ok-read_bits.ensures.exact.value, refl);
}

use Rattle.std.proofs.Common.{refl}
use Rattle.std.proofs.lemmas.Result.{err_from_is_err_and}
use Rattle.vec_base.specs.declared.value.Value.TheVariants.{Int8}
use Rattle.vec_literal.specs.Faults.{IsInt8Fault}
use Rattle.vec_literal.specs.Int8.{SpellsInt8}
use Rattle.csv_fields.specs.Fields.{IsInt8Field}
use Rattle.csv_fields.proofs.FieldLaws.{is_read, of_literal, one_int8}
use Rattle.csv_fields.proofs.reading.int8_value.Goals as goal

pub returns-in_err-read_int8 : goal.returns-in_err-read_int8
returns-in_err-read_int8 c =
    let p = err_from_is_err_and c.from_residual.result c.from_residual.ensures.1 in
    rw (p.1, p.2) (record {
      exact = of_literal (λ vector. SpellsInt8 c.args.field.now vector) (λ fault. IsInt8Fault c.args.field.now fault) (IsInt8Field c.args.field.now) (one_int8 c.args.field.now)
          c.in_err-read_int8.field-0.0 (rw c.as_bytes.ensures.value at c.in_err-read_int8.ensures.exact) (λ v h. (h.0, h.1));
    })

pub returns : goal.returns
returns c = record {
  exact = is_read (IsInt8Field c.args.field.now) (one_int8 c.args.field.now) (Int8 c.in_ok-read_int8.field-0)
      (c.in_ok-read_int8.field-0, rw c.as_bytes.ensures.value at c.in_ok-read_int8.ensures.exact.value, refl);
}

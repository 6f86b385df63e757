use Rattle.std.proofs.Common.{Some, None, refl, arith}
use Rattle.std.proofs.lemmas.Str.Pattern.{strip_prefix_char}
use Rattle.vec_base.specs.declared.value.Value.TheVariants.{Blob}
use Rattle.csv_fields.specs.Fields.{IsMarkedBlob}
use Rattle.csv_fields.proofs.FieldLaws.{is_read, no_form, one_marked_blob}
use Rattle.csv_fields.proofs.reading.marked_blob.Goals as goal

pub returns-in_ok-read_bits-in-Some : goal.returns-in_ok-read_bits-in-Some
returns-in_ok-read_bits-in-Some c =
    let front = strip_prefix_char 120 c.args.field.now (Some c.in-Some.digits) c.in-Some.ensures.cases (omega arith) in
    record {
      exact = is_read (IsMarkedBlob c.args.field.now) (one_marked_blob c.args.field.now) (Blob c.in_ok-read_bits-in-Some.field-0)
          (c.in-Some.digits.now, c.in_ok-read_bits-in-Some.field-0, front, rw c.as_bytes.ensures.value at c.in_ok-read_bits-in-Some.ensures.exact.value, refl);
    }

pub returns-in-None : goal.returns-in-None
returns-in-None c =
    let other = strip_prefix_char 120 c.args.field.now None c.in-None.ensures.cases (omega arith) in
    record {
      exact = no_form (IsMarkedBlob c.args.field.now) (one_marked_blob c.args.field.now) (λ v h. other h.0 h.2);
    }

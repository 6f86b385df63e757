use Rattle.std.proofs.Common.{Some, None, ap, arith}
use Rattle.std.proofs.lemmas.Str.Pattern.{strip_prefix_char}
use Rattle.vec_base.specs.declared.value.Value.TheVariants.{Text}
use Rattle.csv_fields.specs.Fields.{IsMarkedText}
use Rattle.csv_fields.proofs.FieldLaws.{is_read, no_form, one_marked_text}
use Rattle.csv_fields.proofs.reading.marked_text.Goals as goal

pub returns-in_ok-from_text-in-Some : goal.returns-in_ok-from_text-in-Some
returns-in_ok-from_text-in-Some c =
    let front = strip_prefix_char 39 c.args.field.now (Some c.in-Some.text) c.in-Some.ensures.cases (omega arith) in
    record {
      exact = is_read (IsMarkedText c.args.field.now) (one_marked_text c.args.field.now) (Text c.in_ok-from_text-in-Some.field-0)
          (c.in-Some.text.now, front, ap Text c.in_ok-from_text-in-Some.ensures);
    }

pub returns-in-None : goal.returns-in-None
returns-in-None c =
    let other = strip_prefix_char 39 c.args.field.now None c.in-None.ensures.cases (omega arith) in
    record {
      exact = no_form (IsMarkedText c.args.field.now) (one_marked_text c.args.field.now) (λ v h. other h.0 h.1);
    }

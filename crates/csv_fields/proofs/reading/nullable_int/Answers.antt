use Rattle.std.proofs.Common.{sym, ◌∙◌}
use Rattle.csv_fields.specs.Fields.{IsIntField}
use Rattle.csv_fields.proofs.FieldLaws.{behind_null, no_int, not_empty, null_read, one_int}
use Rattle.csv_fields.proofs.reading.nullable_int.Goals as goal

pub returns-then-is_empty : goal.returns-then-is_empty
returns-then-is_empty c = record {
  exact = null_read IsIntField no_int c.args.field.now (one_int c.args.field.now) (sym c.is_empty.ensures ∙ c.if-is_empty.true);
}

pub returns : goal.returns
returns c = record {
  exact = behind_null IsIntField no_int c.args.field.now (one_int c.args.field.now) (not_empty c.args.field.now (sym c.is_empty.ensures ∙ c.if-is_empty.false)) c.int_value.result c.int_value.ensures.exact;
}

use Rattle.std.proofs.Common.{sym, ◌∙◌}
use Rattle.csv_fields.specs.Fields.{IsMarkedText}
use Rattle.csv_fields.proofs.FieldLaws.{behind_null, no_marked_text, not_empty, null_read, one_marked_text}
use Rattle.csv_fields.proofs.reading.nullable_text.Goals as goal

pub returns-then-is_empty : goal.returns-then-is_empty
returns-then-is_empty c = record {
  exact = null_read IsMarkedText no_marked_text c.args.field.now (one_marked_text c.args.field.now) (sym c.is_empty.ensures ∙ c.if-is_empty.true);
}

pub returns : goal.returns
returns c = record {
  exact = behind_null IsMarkedText no_marked_text c.args.field.now (one_marked_text c.args.field.now) (not_empty c.args.field.now (sym c.is_empty.ensures ∙ c.if-is_empty.false)) c.marked_text.result c.marked_text.ensures.exact;
}

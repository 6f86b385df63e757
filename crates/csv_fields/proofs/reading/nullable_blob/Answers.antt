use Rattle.std.proofs.Common.{sym, ◌∙◌}
use Rattle.csv_fields.specs.Fields.{IsMarkedBlob}
use Rattle.csv_fields.proofs.FieldLaws.{behind_null, no_marked_blob, not_empty, null_read, one_marked_blob}
use Rattle.csv_fields.proofs.reading.nullable_blob.Goals as goal

pub returns-then-is_empty : goal.returns-then-is_empty
returns-then-is_empty c = record {
  exact = null_read IsMarkedBlob no_marked_blob c.args.field.now (one_marked_blob c.args.field.now) (sym c.is_empty.ensures ∙ c.if-is_empty.true);
}

pub returns : goal.returns
returns c = record {
  exact = behind_null IsMarkedBlob no_marked_blob c.args.field.now (one_marked_blob c.args.field.now) (not_empty c.args.field.now (sym c.is_empty.ensures ∙ c.if-is_empty.false)) c.marked_blob.result c.marked_blob.ensures.exact;
}

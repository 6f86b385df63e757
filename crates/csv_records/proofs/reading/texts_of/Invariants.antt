use Rattle.std.proofs.Common.{◌≡◌}
use Rattle.std.specs.Prelude.{take}
use Rattle.csv.specs.Records.{fields_of}
use Rattle.csv_records.proofs.reading.texts_of.Given as goal

abbrev pub invariant-loop-field : goal.invariant-loop-field
invariant-loop-field l = (l.field-iterator.row.now ≡ l.row) × (l.fields ≡ take l.field-iterator.at (fields_of l.row))

-- The text of records, as `csv` writes them: commas between the fields, a line feed behind each record, quotes where needed.
use Rattle.std.specs.Prelude.{ℕ, List}
use Rattle.std.specs.List.{flat_map}
use Rattle.csv.specs.Writing.{default_writer, row_text}
use Rattle.csv_records.specs.Records.{Fields}

-- the text of one record
abbrev pub record_text : Fields → List ℕ
record_text record_fields = row_text default_writer record_fields

-- the text of records, one behind the other
abbrev pub written : List Fields → List ℕ
written rows = flat_map record_text rows

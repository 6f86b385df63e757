use Rattle.csv_records.proofs.WrittenLaws.{written_back}
use Rattle.csv_records.proofs.writing.reads_back.Goals as goal

pub returns : goal.returns
returns c = written_back

use Rattle.csv_fields.proofs.BackLaws.{field_back}
use Rattle.csv_fields.proofs.writing.reads_back.Goals as goal

pub returns : goal.returns
returns c = field_back

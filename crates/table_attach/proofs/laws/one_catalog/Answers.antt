use Rattle.record_bodies.proofs.OneTableLaws.{one_catalog}
use Rattle.table_attach.proofs.SchemaTexts.{one_text}
use Rattle.table_attach.proofs.laws.one_catalog.Goals as goal

pub returns : goal.returns
returns c = one_catalog one_text

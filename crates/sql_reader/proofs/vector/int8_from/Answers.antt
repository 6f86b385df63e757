use Rattle.std.proofs.Common.{◌∙◌}
use Rattle.sql_reader.proofs.PartLaws.{text_gives}
use Rattle.sql_reader.proofs.vector.int8_from.Goals as goal

pub returns-in-Text : goal.returns-in-Text
returns-in-Text c = text_gives c.int8_of.result c.in-Text.text c.as_bytes.result.now c.args.value.now (c.as_bytes.ensures.value ∙ c.as_text.ensures) c.in-Text.is c.int8_of.ensures

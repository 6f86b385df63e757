use Rattle.std.proofs.Common.{◌∙◌}
use Rattle.sql_reader.proofs.PartLaws.{text_taken}
use Rattle.sql_reader.proofs.parameters.value_is_int8.Goals as goal

pub returns-in_ok-vector-in-Text : goal.returns-in_ok-vector-in-Text
returns-in_ok-vector-in-Text c =
    text_taken c.in_ok-vector-in-Text.vector c.in-Text.text c.as_bytes.result.now c.args.value.now c.is_some.result (c.as_bytes.ensures.value ∙ c.as_text.ensures) c.in-Text.is c.in_ok-vector-in-Text.ensures c.is_some.ensures

use Rattle.sql_reader.proofs.PartLaws.{quoted_gives}
use Rattle.sql_reader.proofs.vector.int8_quoted.Goals as goal

pub returns : goal.returns
returns c = quoted_gives c.args.quoted.now c.spelling.result.now c.int8_of.result c.spelling.ensures c.int8_of.ensures

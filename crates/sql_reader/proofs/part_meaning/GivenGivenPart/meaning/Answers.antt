use Rattle.sql_reader.proofs.PartLaws.{failing_text, none_spelled}
use Rattle.sql_reader.proofs.part_meaning.GivenGivenPart.meaning.Goals as goal

pub returns-in-None : goal.returns-in-None
returns-in-None c =
    failing_text c.in-Int8Text.place c.in-Int8Text.text c.args.self c.in-Int8Text.is
    (none_spelled c.in_ok-vector-in-Int8Text.field-0 c.in-Int8Text.text c.in-None.is c.in_ok-vector-in-Int8Text.ensures)

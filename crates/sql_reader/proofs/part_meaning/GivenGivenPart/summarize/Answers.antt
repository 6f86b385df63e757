use Rattle.sql_reader.proofs.ParameterLaws.{any_summarized, int8_summarized, bits_summarized}
use Rattle.sql_reader.proofs.part_meaning.GivenGivenPart.summarize.Goals as goal

pub returns-in-Parameter : goal.returns-in-Parameter
returns-in-Parameter c = any_summarized c.args.params.now c.in-Parameter.number c.args.self.now c.args.summary c.with_use.result c.in-Parameter.is c.with_use.ensures

pub returns-in_ok-taken-in-Int8Parameter : goal.returns-in_ok-taken-in-Int8Parameter
returns-in_ok-taken-in-Int8Parameter c = int8_summarized c.args.params.now c.in-Int8Parameter.number c.in_ok-taken-in-Int8Parameter.taken c.args.self.now c.args.summary c.with_use-in-Int8Parameter.result c.in-Int8Parameter.is c.in_ok-taken-in-Int8Parameter.ensures c.with_use-in-Int8Parameter.ensures

pub returns-in-BitsParameter : goal.returns-in-BitsParameter
returns-in-BitsParameter c = bits_summarized c.args.params.now c.in-BitsParameter.number c.is_bits-taken.result c.args.self.now c.args.summary c.with_use-in-BitsParameter.result c.in-BitsParameter.is c.is_bits-taken.ensures c.with_use-in-BitsParameter.ensures

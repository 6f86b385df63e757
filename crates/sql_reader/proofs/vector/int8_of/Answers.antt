-- A text that spells a vector is not refused.
use Rattle.std.proofs.Common.{refl}
use Rattle.vec_literal.proofs.FaultLaws.{never_refused}
use Rattle.sql_reader.proofs.vector.int8_of.Goals as goal

pub returns-in-Err-Place : goal.returns-in-Err-Place
returns-in-Err-Place c vector spelled =
    never_refused c.read_int8.result c.in-Err-Place.field-0 _ vector (c.read_int8.ensures.exact.only_value vector spelled) c.in-Err-Place.is c.in-Err-Place.field-0-is refl

pub returns-in-Err-Range : goal.returns-in-Err-Range
returns-in-Err-Range c vector spelled =
    never_refused c.read_int8.result c.in-Err-Range.field-0 _ vector (c.read_int8.ensures.exact.only_value vector spelled) c.in-Err-Range.is c.in-Err-Range.field-0-is refl

pub returns-in-Err-OddHex : goal.returns-in-Err-OddHex
returns-in-Err-OddHex c vector spelled =
    never_refused c.read_int8.result c.in-Err-OddHex.field-0 _ vector (c.read_int8.ensures.exact.only_value vector spelled) c.in-Err-OddHex.is c.in-Err-OddHex.field-0-is refl

use Rattle.std.proofs.Common.{codes, arith}
use Rattle.http_replies.proofs.LengthLaws.{three_numbers}
use Rattle.http_replies.proofs.short.shape_short.Goals as goal

pub returns : goal.returns
returns c =
    three_numbers (codes "vector column ") (codes " wants ") (codes " got ") c.args.column c.args.wanted c.args.got (omega arith) (omega arith) (omega arith) (omega arith) (omega arith) (omega arith)

use Rattle.std.proofs.Common.{codes, arith}
use Rattle.http_replies.proofs.LengthLaws.{two_numbers}
use Rattle.http_replies.proofs.short.full_short.Goals as goal

pub returns : goal.returns
returns c = two_numbers (codes "full limit ") (codes " count ") c.args.limit c.args.count (omega arith) (omega arith) (omega arith) (omega arith)

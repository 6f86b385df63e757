use Rattle.std.proofs.Common.{codes, arith}
use Rattle.http_replies.proofs.LengthLaws.{two_numbers}
use Rattle.http_replies.proofs.short.snapshot_short.Goals as goal

pub returns : goal.returns
returns c = two_numbers (codes "old snapshot ") (codes " latest ") c.args.at c.args.latest (omega arith) (omega arith) (omega arith) (omega arith)

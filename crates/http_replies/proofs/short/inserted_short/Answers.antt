use Rattle.std.proofs.Common.{arith, rules}
use Rattle.http_replies.proofs.LengthLaws.{inserted_body}
use Rattle.http_replies.proofs.short.inserted_short.Goals as goal

pub returns : goal.returns
returns c = inserted_body c.args.count c.args.last.now (omega arith) (search rules)

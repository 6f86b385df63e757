use Rattle.std.proofs.Common.{length}
use Rattle.http_requests.proofs.framing.+is_name.Given as goal

abbrev pub decreases-is_name : goal.decreases-is_name
decreases-is_name l = length l.name.now

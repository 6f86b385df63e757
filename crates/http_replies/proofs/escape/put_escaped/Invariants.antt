-- What is still to be written makes the whole.
use Rattle.std.proofs.Common.{length}
use denote.Text.{Utf8}
use denote.Shadow.{shadow}
use Rattle.json.specs.Print.{escape}
use Rattle.http_replies.proofs.escape.put_escaped.Given as goal

abbrev pub invariant-loop-plain : goal.invariant-loop-plain
invariant-loop-plain g l = shadow (Utf8 l.left) × ((end : _) → g.W.Takes.adds (escape l.left) l.to end → g.W.Takes.adds (escape l.fn.text) l.fn.to end)

abbrev pub decreases-loop-plain : goal.decreases-loop-plain
decreases-loop-plain g l = length l.left

-- The elements before the next one are written.
use Rattle.std.proofs.Common.{take}
use Rattle.vec_text.specs.SeparatedTexts.{behind}
use Rattle.http_replies.proofs.rows.put_behind.Given as goal

abbrev pub invariant-loop-element : goal.invariant-loop-element
invariant-loop-element g l = g.W.Takes.adds (behind l.fn.separator g.J.Json.json_of (take l.element-index l.elements)) l.fn.to l.to

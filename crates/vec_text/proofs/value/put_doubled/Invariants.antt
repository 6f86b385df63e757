-- What is still to be written makes the whole.
use Rattle.std.proofs.Common.{length}
use denote.Text.{Utf8}
use denote.Shadow.{shadow}
use Rattle.vec_text.specs.ValueTexts.{doubled}
use Rattle.vec_text.proofs.value.put_doubled.Given as goal

abbrev pub invariant-loop-before : goal.invariant-loop-before
invariant-loop-before g l = shadow (Utf8 l.left) × ((end : _) → g.W.Takes.adds (doubled l.left) l.to end → g.W.Takes.adds (doubled l.fn.text) l.fn.to end)

abbrev pub decreases-loop-before : goal.decreases-loop-before
decreases-loop-before g l = length l.left

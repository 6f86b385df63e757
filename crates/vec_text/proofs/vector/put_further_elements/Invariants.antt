-- The elements before the next one are written.
use Rattle.std.proofs.Common.{take, codes}
use Rattle.vec_text.specs.SeparatedTexts.{behind}
use Rattle.vec_text.specs.ValueTexts.{element_text}
use Rattle.vec_text.proofs.vector.put_further_elements.Given as goal

abbrev pub invariant-loop-element : goal.invariant-loop-element
invariant-loop-element g l = g.W.Takes.adds (behind (codes ",") element_text (take l.element-index l.others)) l.fn.to l.to

use Rattle.std.proofs.Common.{ℕ, List, codes, subst}
use Rattle.vec_text.specs.ValueTexts.{element_text}
use Rattle.vec_text.proofs.Fronts.{behind_more}
use Rattle.vec_text.proofs.vector.put_further_elements.Goals as goal

pub loop-element-preserved : goal.loop-element-preserved
loop-element-preserved g c =
    subst (λ (part : List ℕ). g.W.Takes.adds part c.args.to.now c.put_element.new.to)
    (behind_more (codes ",") element_text c.args.others.now c.loop-element.element-index 0 c.loop-element-test.true)
    (g.met.W.Takes.both _ _ _ _ _ (g.met.W.Takes.both _ _ _ _ _ c.loop-element.invariant c.in_ok-put.ensures.added) c.in_ok-put_element.ensures.added)

use Rattle.std.proofs.Common.{rules, arith, ℕ, List, subst, sym}
use Rattle.std.proofs.lemmas.Result.{on_ok_weaker}
use Rattle.std.proofs.lemmas.Str.Pattern.{split_once_first}
use Rattle.vec_text.proofs.Doubling.{part_doubled, no_quote}
use Rattle.vec_text.proofs.value.put_doubled.Goals as goal

pub loop-before-preserved : goal.loop-before-preserved
loop-before-preserved g c =
    let cut = rw c.in-Some.is at (split_once_first 39 c.loop-before.left.now c.split_once.result c.split_once.ensures.cases (omega arith)) in (
      search rules,
      λ end others. c.loop-before.invariant.1 end
          (subst (λ (part : List ℕ). g.W.Takes.adds part c.loop-before.to end) (part_doubled c.loop-before.left.now c.in-Some.before.now c.in-Some.after.now cut.0 cut.1 cut.2)
          (g.met.W.Takes.both _ _ _ _ _ (g.met.W.Takes.both _ _ _ _ _ c.in_ok-put.ensures.added c.in_ok-put-2.ensures.added) others)),
    )

pub returns-clause-added : goal.returns-clause-added
returns-clause-added g c =
    let none = rw c.in_default.is at (split_once_first 39 c.loop-before.left.now c.split_once.result c.split_once.ensures.cases (omega arith)) in
    on_ok_weaker c.put-2.result (λ added. c.loop-before.invariant.1 _ (subst (λ (part : List ℕ). g.W.Takes.adds part c.loop-before.to c.put-2.new.self) (sym (no_quote c.loop-before.left.now none)) added)) c.put-2.ensures.added

use Rattle.std.proofs.Common.{◌∙◌, sym, arith}
use Rattle.std.proofs.lemmas.Bool.{both_ways}
use Rattle.vec_literal.proofs.Marks.{pair_ends, single_ends, mark_nowhere}
use Rattle.vec_literal.proofs.token.mark_end.Goals as goal
use Rattle.vec_literal.proofs.token.mark_end.Goals.{else-from-text-via-then-from-text+else-is_pair, else-from-text-via-else-from-text}

pub returns-then-is_pair : goal.returns-then-is_pair
returns-then-is_pair c = pair_ends c.args.text.now c.args.from c.if-from-text.true (sym c.is_pair.ensures ∙ c.if-is_pair.true)

pub returns-then-is_single : goal.returns-then-is_single
returns-then-is_single c = single_ends c.args.text.now c.args.from c.requires (sym c.is_single.ensures ∙ c.if-is_single.true)
    (λ l h. elim c.else-from-text.branch [
      | else-from-text-via-then-from-text+else-is_pair w ↦ both_ways _ (sym w.is_pair.ensures ∙ w.if-is_pair.false) h
      | else-from-text-via-else-from-text w ↦ omega arith
    ])

pub returns : goal.returns
returns c = mark_nowhere c.args.text.now c.args.from c.requires (sym c.is_single.ensures ∙ c.if-is_single.false)
    (λ l h. elim c.else-from-text.branch [
      | else-from-text-via-then-from-text+else-is_pair w ↦ both_ways _ (sym w.is_pair.ensures ∙ w.if-is_pair.false) h
      | else-from-text-via-else-from-text w ↦ omega arith
    ])

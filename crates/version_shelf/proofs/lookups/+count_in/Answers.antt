use Rattle.std.proofs.Common.{◌∙◌, ◌+◌, ap, sym, suc}
use Rattle.version_shelf.proofs.NumberLaws.{count_less, count_more}
use Rattle.version_shelf.proofs.lookups.+count_in.Goals as goal

pub returns-then-is_there-clause-count : goal.returns-then-is_there-clause-count
returns-then-is_there-clause-count t c = λ base. rw c.in-Some.ensures.cases.0 (ap (λ n. n + 1) (c.count_in-more.ensures.count (suc base)) ∙ sym (count_more base _ _ (sym c.is_there.ensures ∙ c.if-is_there.true)))

pub returns-else-is_there-clause-count : goal.returns-else-is_there-clause-count
returns-else-is_there-clause-count t c = λ base. rw c.in-Some.ensures.cases.0 (c.count_in-more.ensures.count (suc base) ∙ sym (count_less base _ _ (sym c.is_there.ensures ∙ c.if-is_there.false)))

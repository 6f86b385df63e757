use Rattle.std.proofs.Common.{◌∙◌, sym}
use Rattle.version_shelf.proofs.NumberLaws.{free_first, free_later}
use Rattle.version_shelf.proofs.lookups.+free_in.Goals as goal

pub returns-then-not-is_there-clause-free : goal.returns-then-not-is_there-clause-free
returns-then-not-is_there-clause-free t c = λ base. rw c.in_ok-place.ensures.cases.0 (free_first base _ _ (sym c.is_there.ensures ∙ c.if-not-is_there.true))

pub returns-in-Some-clause-free : goal.returns-in-Some-clause-free
returns-in-Some-clause-free t c = λ base. rw c.in_ok-place.ensures.cases.0 (free_later base _ _ _ (sym c.is_there.ensures ∙ c.if-not-is_there.false) c.in-Some.ensures.free)

use Rattle.version_shelf.proofs.NumberLaws.{number-at}
use Rattle.version_shelf.proofs.shelf.Shelf.number.Goals as goal

pub returns-in-Some-clause-some : goal.returns-in-Some-clause-some
returns-in-Some-clause-some c = rw (← c.self.view_is) (number-at _ _ _ (rw c.as_slice.ensures.value at (c.in-Some.ensures.some 1)))

pub returns-in-None-clause-none : goal.returns-in-None-clause-none
returns-in-None-clause-none c = rw (← c.self.view_is) (rw c.as_slice.ensures.value at (c.in-None.ensures.none 1))

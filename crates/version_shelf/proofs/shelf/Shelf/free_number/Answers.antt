use Rattle.version_shelf.proofs.NumberLaws.{free-at}
use Rattle.version_shelf.proofs.shelf.Shelf.free_number.Goals as goal

pub returns-in-Some-clause-free : goal.returns-in-Some-clause-free
returns-in-Some-clause-free c = rw (← c.self.view_is) (free-at _ _ (rw c.as_slice.ensures.value at (c.in-Some.ensures.free 1)))

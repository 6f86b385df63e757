use Rattle.version_shelf.proofs.shelf.Shelf.tables.Goals as goal

pub returns : goal.returns
returns c = rw (← c.self.view_is) (rw c.as_slice.ensures.value at (c.count_in.ensures.count 1))

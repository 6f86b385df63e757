use Rattle.slot_alloc.proofs.ChangeLaws.{place_map}
use Rattle.slot_alloc.proofs.chunks.Chunks.known.Goals as goal

pub returns : goal.returns
returns c = rw (← c.self.view_is) (place_map c.self.inside.size c.self.inside.chunks c.self.invariant)

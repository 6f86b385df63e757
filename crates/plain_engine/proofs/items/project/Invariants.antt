use Rattle.std.proofs.Common.{◌≡◌, take, map}
use Rattle.row_model.specs.Answer.{items_of}
use Rattle.plain_engine.proofs.items.project.Given as goal

abbrev pub invariant-loop-near : goal.invariant-loop-near
invariant-loop-near l = l.rows ≡ map (items_of l.places) (take l.near-index l.nears)

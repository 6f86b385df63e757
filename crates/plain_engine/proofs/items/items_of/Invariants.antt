use Rattle.std.proofs.Common.{◌≡◌, take}
use Rattle.row_model.specs.Answer.{items_of}
use Rattle.plain_engine.proofs.items.items_of.Given as goal

abbrev pub invariant-loop-place : goal.invariant-loop-place
invariant-loop-place l = l.values ≡ items_of (take l.place-index l.places) l.near

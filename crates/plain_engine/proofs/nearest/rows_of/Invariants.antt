use Rattle.std.proofs.Common.{◌≡◌, take}
use Rattle.std.specs.Prelude.{map}
use Rattle.plain_engine.specs.inner.RowHits.{near_at}
use Rattle.plain_engine.proofs.nearest.rows_of.Given as goal

abbrev pub invariant-loop-hit : goal.invariant-loop-hit
invariant-loop-hit l = l.nears.items ≡ map (near_at l.rows) (take l.hit-index l.hits)

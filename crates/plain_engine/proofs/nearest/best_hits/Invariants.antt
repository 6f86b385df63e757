use Rattle.std.proofs.Common.{◌≡◌, [], take, Some}
use Rattle.std.specs.Prelude.{map}
use Rattle.vec_base.specs.inner.Offers.{offered}
use Rattle.topk_merge.specs.Hits.{is_before}
use Rattle.row_model.specs.Answer.{counted}
use Rattle.plain_engine.specs.inner.RowHits.{hit_to}
use Rattle.plain_engine.proofs.nearest.best_hits.Given as goal

abbrev pub invariant-loop-row : goal.invariant-loop-row
invariant-loop-row l = (l.best.room ≡ l.k) × (l.best.hits ≡ offered is_before l.k [] (map (hit_to l.target) (counted l.columns l.terms (Some l.target) (take l.row-index l.rows))))

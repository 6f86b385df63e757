-- What a list of the first hits shows to its callers.
use Rattle.std.specs.Prelude.{ℕ, List}
use Rattle.topk_merge.specs.declared.hit.Hit.{Hit}

-- how many hits are kept at most, and those that are
pub record Ranking : Type 0 where
  pub room : ℕ
  pub hits : List Hit

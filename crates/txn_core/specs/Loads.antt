-- What the reading of records leaves of a keeper.
use Rattle.std.specs.Prelude.{◌≡◌, ◌≤◌, IsTrue}
use Rattle.shadow_keeper.specs.Keeping.{Adds, Within}
use Rattle.txn_commits.specs.Keeping.{Meanings}

-- The tables stay, and a stop leaves what it could leave before.
pub record Loads {K : Type 0} (M : Meanings K) (old new : K) : Type 0 where
  pub told : M.tells new ≡ M.tells old
  pub tables : IsTrue (M.tells old) → M.tables new ≡ M.tables old
  pub within : Within (M.stops.now new) (M.stops.now old)
  pub during : Adds M.stops old new (M.stops.now old)
  pub later : M.stops.clock old ≤ M.stops.clock new
  pub count : M.faults old ≤ M.faults new

-- Versions that follow others on a shelf.
use Rattle.std.specs.Prelude.{◌≡◌, ℕ, List, Option, Some, None, slice_index_or, ⊤}
use Rattle.table_version.specs.Versions.{VersionState, Follows}

-- the newer version follows the older one
abbrev pub FollowsIn : Option VersionState → Option VersionState → Type 0
FollowsIn None newer = ⊥
FollowsIn (Some older) None = ⊥
FollowsIn (Some older) (Some newer) = Follows older.table newer

-- the version follows the one at the place, where one is named
abbrev pub ComesFrom : List (Option VersionState) → Option ℕ → Option VersionState → Type 0
ComesFrom shelf None version = ⊤
ComesFrom shelf (Some place) version = FollowsIn (slice_index_or shelf place None) version

-- an equal version, and the place of the one that it follows
pub record IsShared (shelf : List (Option VersionState)) (old new : VersionState) (origin : Option ℕ) : Type 0 where
  pub same : new.table ≡ old.table
  pub from : ComesFrom shelf origin (Some new)

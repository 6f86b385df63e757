-- What one call does to what a stop leaves.
use Rattle.std.specs.Prelude.{◌⊎◌, ◌≤◌, Option, Some, None}
use Rattle.row_model.specs.declared.row.Catalog.{Catalog}
use Rattle.run_commits.specs.Commits.{Commit, Acknowledged, Faulted, Starved, catalog_of}
use Rattle.shadow_keeper.specs.Keeping.{Adds, Stops, Within}
use Rattle.shadow_records.specs.Keys.{Tables}
use Rattle.txn_commits.specs.Standing.{Stands}

-- what is left stands for the catalog of the commit
abbrev pub StandsForCommit : Option Commit → Option Tables → Type 0
StandsForCommit None left = ⊥
StandsForCommit (Some commit) left = Stands left (catalog_of commit)

-- What a stop leaves after a call that made no commit, or one: with what it could leave before, and the catalog before. After an acknowledged
-- commit it leaves the new catalog alone. After a fault of the store it leaves what it could before, or the catalogs before and after alone.
-- After want of memory, and where no commit was made, it leaves what it could before.
abbrev pub LeftNow : Option Commit → (Option Tables → Type 0) → Catalog → (Option Tables → Type 0) → Type 0
LeftNow None before catalog now = Within now before
LeftNow (Some (Acknowledged new)) before catalog now = Within now (λ left. Stands left new)
LeftNow (Some (Faulted new)) before catalog now = Within now before ⊎ Within now (λ left. Stands left catalog ⊎ Stands left new)
LeftNow (Some (Starved new)) before catalog now = Within now before

-- During the call a stop leaves what it could leave before, or the new catalog of a commit.
pub record Leaves {E : Type 0} (S : Stops E) (before : Catalog) (old : E) (commit : Option Commit) (new : E) : Type 0 where
  pub later : S.clock old ≤ S.clock new
  pub during : Adds S old new (λ left. S.now old left ⊎ StandsForCommit commit left)
  pub now : LeftNow commit (S.now old) before (S.now new)

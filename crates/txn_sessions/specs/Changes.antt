-- A changed version, and the catalog with it.
use Rattle.std.specs.Prelude.{◌-◌, ◌≤◌, nat_lt, ℕ, List, slice_set, Some, Ok}
use Rattle.vec_base.specs.declared.limits.TheConstants.{MOST_TABLES}
use Rattle.vec_base.specs.declared.refusal.Refusal.{Refusal}
use Rattle.vec_base.specs.declared.refusal.Refusal.TheVariants.{OldSnapshot}
use Rattle.row_model.specs.declared.request.Reply.{Reply}
use Rattle.row_model.specs.declared.row.Catalog.{Catalog}
use Rattle.row_model.specs.declared.state.State.{State}
use Rattle.row_model.specs.RefusalOrder.{when}
use Rattle.row_model.specs.Step.{taken_in, wrote}
use Rattle.version_shelf.specs.Numbers.{catalog_of}
use Rattle.version_shelf.specs.OnShelf.{shown}
use Rattle.version_shelf.specs.Shares.{ComesFrom}
use Rattle.txn_sessions.specs.declared.change.Changed.{Changed}
use Rattle.txn_sessions.specs.declared.machine.Machine.{Machine}
use Rattle.txn_sessions.specs.Seen.{Versions, session_at, state_of}
use Rattle.txn_sessions.specs.Sound.{IsOn}

-- a snapshot of the number, where so many commits were made
abbrev pub older_than : ℕ → ℕ → List Refusal
older_than number commits = when (nat_lt number commits) (OldSnapshot number commits)

-- a changed catalog takes its place in the session at a place
abbrev pub taken_at : Machine → ℕ → Reply → Catalog → Reply × State
taken_at m at reply catalog = (reply, taken_in (state_of m) (session_at m at) (session_at m at).phase catalog)

-- the same, or the refusal of one more commit
abbrev pub wrote_at : Machine → ℕ → Reply → Catalog → Reply × State
wrote_at m at reply catalog = wrote (state_of m) (session_at m at) (Ok (reply, catalog))

-- the catalog with the changed version under its number
abbrev pub changed_catalog : Versions → Changed → Catalog
changed_catalog shelf changed = catalog_of (slice_set (shown shelf changed.held.places) (changed.number - 1) (Some changed.version))

-- the version may stand under its number, and it follows what stands at its origin
pub record IsPut (shelf : Versions) (changed : Changed) : Type 0 where
  pub low : 1 ≤ changed.number
  pub high : changed.number ≤ MOST_TABLES
  pub held : IsOn shelf changed.held
  pub from : ComesFrom shelf changed.origin (Some changed.version)

-- What a write makes of a table, or what refuses it.
use Rattle.std.specs.Prelude.{◌≡◌, ◌⊎◌, ◌≤◌, ◌-◌, ◌++◌, ℕ, List, slice_index_or, Option, Some, None, Result, Ok, Err}
use Rattle.vec_base.specs.declared.limits.TheConstants.{MOST_TABLES}
use Rattle.vec_base.specs.declared.refusal.Refusal.{Refusal}
use Rattle.vec_base.specs.declared.refusal.Refusal.TheVariants.{WantOfMemory}
use Rattle.row_model.specs.declared.request.Reply.{Reply}
use Rattle.row_model.specs.declared.request.Reply.TheVariants.{Refused}
use Rattle.row_model.specs.declared.row.Catalog.{Catalog}
use Rattle.row_model.specs.declared.state.State.{State}
use Rattle.row_model.specs.RefusalOrder.{first}
use Rattle.row_model.specs.Step.{busy_beside, old_snapshot, wrote}
use Rattle.table_version.specs.Versions.{VersionState}
use Rattle.version_shelf.specs.declared.slots.Kept.{Kept}
use Rattle.version_shelf.specs.Numbers.{IsNumber}
use Rattle.version_shelf.specs.OnShelf.{at_place, shown}
use Rattle.version_shelf.specs.Shares.{ComesFrom}
use Rattle.txn_sessions.specs.declared.change.Changed.{Changed}
use Rattle.txn_sessions.specs.declared.machine.Machine.{Machine}
use Rattle.txn_sessions.specs.Changes.{IsPut, changed_catalog}
use Rattle.txn_sessions.specs.Seen.{Versions, catalog_at, held_seen, session_at, state_of}

-- the versions of the catalog that a session sees
abbrev pub versions_seen : Machine → ℕ → Versions
versions_seen m at = shown m.shelf (held_seen m at).places

-- the catalog
abbrev pub catalog_seen : Machine → ℕ → Catalog
catalog_seen m at = catalog_at m.shelf (held_seen m at)

-- the version under a number
abbrev pub version_seen : Machine → ℕ → ℕ → Option VersionState
version_seen m at number = at_place m.shelf (slice_index_or (held_seen m at).places (number - 1) None)

-- what refuses a write that its own checks let through
abbrev pub write_refusal : Machine → ℕ → Option Refusal
write_refusal m at = first (busy_beside (state_of m) (session_at m at) ++ old_snapshot (state_of m) (session_at m at).phase)

-- an equal version of the table of the name, to be changed
pub record IsOpened (m : Machine) (at : ℕ) (name : List ℕ) (number : ℕ) (kept : Kept) : Type 0 where
  pub high : number ≤ MOST_TABLES
  pub number_is : IsNumber name (versions_seen m at) number
  pub same : kept.version.table ≡ number_is.from.version.table
  pub from : ComesFrom m.shelf kept.origin (Some kept.version)

-- the version that the change makes, or what refuses it
abbrev pub MakesChange : Versions → Result (Reply × Catalog) Refusal → Result Changed Refusal → Type 0
MakesChange shelf change (Ok changed) = IsPut shelf changed × (change ≡ Ok (changed.reply, changed_catalog shelf changed))
MakesChange shelf change (Err refusal) = (change ≡ Err refusal) ⊎ (refusal ≡ WantOfMemory)

-- the version with which the answer takes a changed catalog in, or what the answer refuses
abbrev pub Makes : Machine → ℕ → Reply × State → Result Changed Refusal → Type 0
Makes m at answer (Ok changed) = IsPut m.shelf changed × (answer ≡ wrote (state_of m) (session_at m at) (Ok (changed.reply, changed_catalog m.shelf changed)))
Makes m at answer (Err refusal) = (answer ≡ (Refused refusal, state_of m)) ⊎ (refusal ≡ WantOfMemory)

-- How a turn is brought to its end over a keeper.
use Rattle.std.specs.Prelude.{◌≡◌, ℕ, ◌+◌, ◌<◌, ◌≤◌, IsTrue, IfSome, Option, Some, length, ⊤}
use Rattle.vec_base.specs.Streams.{Rose}
use Rattle.vec_base.specs.declared.limits.TheConstants.{MOST_COMMITS}
use Rattle.row_model.specs.Valid.{IsValidCatalog}
use Rattle.row_model.specs.declared.request.Reply.{Reply}
use Rattle.shadow_keeper.specs.declared.keeper.Kept.{Kept}
use Rattle.shadow_keeper.specs.declared.keeper.Kept.TheVariants.{Failed}
use Rattle.txn_commits.specs.Keeping.{Meanings, told_stops}
use Rattle.txn_commits.specs.Outcomes.{commit_as, if_kept, reply_as}
use Rattle.txn_commits.specs.Stops.{Leaves}
use Rattle.txn_sessions.specs.Seen.{catalog_at, state_from, state_of}
use Rattle.txn_sessions.specs.Sound.{IsOn, IsSound}
use Rattle.txn_sessions.specs.Turns.{ended_at}
use Rattle.txn_sessions.specs.declared.machine.Machine.{Machine}
use Rattle.txn_sessions.specs.declared.turn.Turn.{Turn}
use Rattle.txn_sessions.specs.declared.turn.Turn.TheVariants.{Answered, Commits}
use Rattle.version_shelf.specs.OnShelf.{shown}
use Rattle.version_shelf.specs.Records.{HoldsRecords}
use Rattle.version_shelf.specs.declared.held.Held.{Held}

-- the keeper has the records of the committed tables
abbrev pub Holds : {K : Type 0} → Meanings K → Machine → K → Type 0
Holds M machine keeper = IsTrue (M.tells keeper) → HoldsRecords (M.tables keeper) (shown machine.shelf machine.held.places)

-- the catalog may be committed
pub record MayCommit (machine : Machine) (held : Held) (ending : Option ℕ) : Type 0 where
  pub on : IsOn machine.shelf held
  pub valid : IsValidCatalog (catalog_at machine.shelf held)
  pub ends : IfSome ending (λ at. at < length machine.sessions.items)
  pub few : machine.commits < MOST_COMMITS

abbrev pub IsReady : Machine → Turn → Type 0
IsReady machine (Answered reply) = ⊤
IsReady machine (Commits held reply ending) = MayCommit machine held ending

-- A commit was made or attempted. Only where it was made the catalog is the committed one and the session's transaction has ended.
pub record Settles {K : Type 0} (M : Meanings K) (old : Machine) (before : K) (held : Held) (reply : Reply) (ending : Option ℕ) (result : Reply) (new : Machine) (after : K) : Type 0 where
  pub kept : Kept
  pub replies : result ≡ reply_as kept reply
  pub state : state_of new ≡ if_kept kept (state_from old.shelf held (old.commits + 1) old.last_id (ended_at ending old.sessions.items)) (state_of old)
  pub sound : IsSound new
  pub holds : Holds M new after
  pub stays : M.ended after ≡ M.ended before
  pub told : M.tells after ≡ M.tells before
  pub leaves : Leaves (told_stops M) (state_of old).catalog before (Some (commit_as kept (catalog_at old.shelf held))) after
  pub count : M.faults before ≤ M.faults after
  pub failed : kept ≡ Failed → Rose (M.faults before) (M.faults after)

-- an answer stays as it is, and a catalog is committed
abbrev pub Finishes : {K : Type 0} → Meanings K → Machine → K → Turn → Reply → Machine → K → Type 0
Finishes M old before (Answered reply) result new after = (result ≡ reply) × (new ≡ old) × (after ≡ before)
Finishes M old before (Commits held reply ending) result new after = Settles M old before held reply ending result new after

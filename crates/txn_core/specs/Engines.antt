-- The engine as contracts see it, and what one request does.
use Rattle.std.specs.Prelude.{◌≡◌, ℕ, ◌≤◌, true, IsTrue, None}
use Rattle.vec_base.specs.Streams.{Rose}
use Rattle.row_model.specs.Step.{Steps}
use Rattle.row_model.specs.declared.request.Reply.{Reply}
use Rattle.row_model.specs.declared.request.Request.{Request}
use Rattle.row_model.specs.declared.state.State.{State}
use Rattle.run_commits.specs.Commits.{commit_of, is_fault}
use Rattle.shadow_keeper.specs.Keeping.{Stops}
use Rattle.txn_commits.specs.Keeping.{Meanings}
use Rattle.txn_commits.specs.Stops.{Leaves}

-- the machine's state, and the keeper
pub record At (K : Type 0) : Type 0 where
  pub state : State
  pub keeper : K

-- what a stop leaves of an engine, where its keeper tells it
abbrev pub engine_stops : {K : Type 0} → Meanings K → Stops (At K)
engine_stops M = record {
  now = λ e left. IsTrue (M.tells e.keeper) × M.stops.now e.keeper left;
  clock = λ e. M.stops.clock e.keeper;
  since = λ e moment left. IsTrue (M.tells e.keeper) × M.stops.since e.keeper moment left;
}

-- a fault of the store is answered only where the count of faults has risen
pub record Costs (reply : Reply) (old new : ℕ) : Type 0 where
  pub later : old ≤ new
  pub rose : is_fault reply ≡ true → Rose old new

-- A request: a step of the machine, what a stop leaves of it, the cause of a fault, and the keeper as it was where no commit is made or attempted.
pub record Served {K : Type 0} (M : Meanings K) (old : At K) (request : Request) (reply : Reply) (new : At K) : Type 0 where
  pub step : Steps old.state request reply new.state
  pub leaves : Leaves (engine_stops M) old.state.catalog old (commit_of old.state request reply) new
  pub costs : Costs reply (M.faults old.keeper) (M.faults new.keeper)
  pub told : M.tells new.keeper ≡ M.tells old.keeper
  pub kept : commit_of old.state request reply ≡ None → new.keeper ≡ old.keeper

-- How an engine is opened over a keeper.
use Rattle.std.specs.Prelude.{◌≡◌, ℕ, IsTrue, ⊤}
use Rattle.row_model.specs.Machine.{first_state}
use Rattle.row_model.specs.declared.row.Catalog.{Catalog}
use Rattle.shadow_keeper.specs.Keeping.{Within}
use Rattle.shadow_records.specs.StandsFor.{StandsFor}
use Rattle.txn_commits.specs.Keeping.{Meanings}
use Rattle.txn_commits.specs.Standing.{Stands}
use Rattle.txn_core.specs.Engines.{At, engine_stops}
use Rattle.txn_core.specs.declared.start.Started.{Started}
use Rattle.txn_core.specs.declared.start.Started.TheVariants.{Ready, Failed, Damaged, Memory}

-- the keeper, in the engine or as it is handed back
abbrev pub keeper_in : {K : Type 0} → Started K → K
keeper_in (Ready engine) = engine.keeper
keeper_in (Failed keeper) = keeper
keeper_in (Damaged number keeper) = keeper
keeper_in (Memory keeper) = keeper

abbrev pub IfReady : {K : Type 0} → Started K → (At K → Type 0) → Type 0
IfReady (Ready engine) P = P engine
IfReady (Failed keeper) P = ⊤
IfReady (Damaged number keeper) P = ⊤
IfReady (Memory keeper) P = ⊤

abbrev pub IfFailed : {K : Type 0} → Started K → Type 0 → Type 0
IfFailed (Ready engine) P = ⊤
IfFailed (Failed keeper) P = P
IfFailed (Damaged number keeper) P = ⊤
IfFailed (Memory keeper) P = ⊤

abbrev pub IfDamaged : {K : Type 0} → Started K → (ℕ → Type 0) → Type 0
IfDamaged (Ready engine) P = ⊤
IfDamaged (Failed keeper) P = ⊤
IfDamaged (Damaged number keeper) P = P number
IfDamaged (Memory keeper) P = ⊤

-- The engine is in the first state of a catalog. Where the keeper tells its tables, they stand for that catalog, and a stop leaves what stands for it.
pub record Opens {K : Type 0} (M : Meanings K) (keeper : K) (engine : At K) : Type 0 where
  pub catalog : Catalog
  pub first : engine.state ≡ first_state catalog
  pub stands : IsTrue (M.tells keeper) → StandsFor (M.tables keeper) catalog
  pub settled : Within ((engine_stops M).now engine) (λ left. Stands left catalog)

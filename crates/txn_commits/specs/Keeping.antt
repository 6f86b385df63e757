-- What a keeper means, and one commit to it.
use Rattle.std.specs.Prelude.{◌≡◌, ℕ, Bool, IsTrue, List, Option, Some}
use Rattle.shadow_keeper.specs.Keeping.{Stops, stops}
use Rattle.shadow_keeper.specs.declared.keeper.Kept.{Kept}
use Rattle.shadow_records.specs.Keys.{Tables}
use Rattle.table_version.specs.Versions.{VersionState}
use Rattle.txn_commits.specs.Outcomes.{commit_as, if_kept}
use Rattle.txn_commits.specs.Stops.{Leaves}
use Rattle.version_shelf.specs.Numbers.{catalog_of}
use Rattle.version_shelf.specs.Records.{HoldsRecords}

-- what contracts see of a keeper
pub record Meanings (K : Type 0) : Type 1 where
  pub ended : K → Bool
  pub tells : K → Bool
  pub tables : K → Tables
  pub faults : K → ℕ
  pub stops : Stops K

abbrev pub meanings : {K : Type 0} → (K → Bool) → (K → Bool) → (K → Tables) → (K → ℕ) → (K → Option Tables → Type 0) → (K → ℕ) → (K → ℕ → Option Tables → Type 0) → Meanings K
meanings ended tells tables faults stopped moment stopped_since = record {
  ended = ended;
  tells = tells;
  tables = tables;
  faults = faults;
  stops = stops stopped moment stopped_since;
}

-- what a stop leaves, where the keeper tells it
abbrev pub told_stops : {K : Type 0} → Meanings K → Stops K
told_stops M = record {
  now = λ k left. IsTrue (M.tells k) × M.stops.now k left;
  clock = M.stops.clock;
  since = λ k moment left. IsTrue (M.tells k) × M.stops.since k moment left;
}

-- One commit over a keeper whose tables are the records of the old versions.
pub record KeepsNext {K : Type 0} (M : Meanings K) (old next : List (Option VersionState)) (before after : K) (answer : Kept) : Type 0 where
  pub holds : IsTrue (M.tells after) → HoldsRecords (M.tables after) (if_kept answer next old)
  pub told : M.tells after ≡ M.tells before
  pub leaves : Leaves (told_stops M) (catalog_of old) before (Some (commit_as answer (catalog_of next))) after

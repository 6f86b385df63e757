-- What holds of a machine between two calls: each catalog that it names is on its shelf, and each cursor over a table has a plan for that table.
use Rattle.std.specs.Prelude.{◌≡◌, ◌≤◌, ℕ, List, Some, ⊤}
use Rattle.std.specs.List.{AllByRecursion}
use Rattle.knn_plan.specs.Plans.{IsPlanFor, Planned}
use Rattle.table_version.specs.Versions.{VersionState}
use Rattle.vec_base.specs.declared.limits.TheConstants.{MOST_TABLES}
use Rattle.version_shelf.specs.declared.held.Held.{Held}
use Rattle.version_shelf.specs.OnShelf.{OnShelf}
use Rattle.txn_sessions.specs.declared.machine.Machine.{Machine}
use Rattle.txn_sessions.specs.declared.session.OpenSession.{OpenSession}
use Rattle.txn_sessions.specs.declared.session.Origin.{Origin}
use Rattle.txn_sessions.specs.declared.session.Origin.TheVariants.{Kept, Table}
use Rattle.txn_sessions.specs.declared.session.Phase.{Phase}
use Rattle.txn_sessions.specs.declared.session.Phase.TheVariants.{Idle, Reading, Writing}
use Rattle.txn_sessions.specs.Seen.{Versions, version_at}

-- ---- a fact of each catalog that is named

abbrev pub InPhase : (Held → Type 0) → Phase → Type 0
InPhase P Idle = ⊤
InPhase P (Reading held number) = P held
InPhase P (Writing base held) = P held

-- P of the catalogs of its phase and marks, and R of the origins of its cursors
pub record InSession (P : Held → Type 0) (R : Origin → Type 0) (s : OpenSession) : Type 0 where
  pub phase : InPhase P s.phase
  pub marks : AllByRecursion (λ m. P m.held) s.marks
  pub cursors : AllByRecursion (λ c. R c.origin) s.cursors

-- P also of the committed catalog
pub record InAll (P : Held → Type 0) (R : Origin → Type 0) (held : Held) (sessions : List OpenSession) : Type 0 where
  pub committed : P held
  pub in_sessions : AllByRecursion (InSession P R) sessions

-- ---- on the shelf

abbrev pub IsOn : Versions → Held → Type 0
IsOn shelf held = OnShelf shelf held.places

-- the catalog has a version under the number, and the plan is for its columns
pub record IsScan (shelf : Versions) (held : Held) (number : ℕ) (plan : Planned) : Type 0 where
  pub on : IsOn shelf held
  pub low : 1 ≤ number
  pub high : number ≤ MOST_TABLES
  pub version : VersionState
  pub there : version_at shelf held number ≡ Some version
  pub planned : IsPlanFor version.table.schema.columns plan

abbrev pub IsOrigin : Versions → Origin → Type 0
IsOrigin shelf Kept = ⊤
IsOrigin shelf (Table held number plan) = IsScan shelf held number plan

abbrev pub IsSoundSession : Versions → OpenSession → Type 0
IsSoundSession shelf s = InSession (IsOn shelf) (IsOrigin shelf) s

abbrev pub IsSound : Machine → Type 0
IsSound m = InAll (IsOn m.shelf) (IsOrigin m.shelf) m.held m.sessions.items

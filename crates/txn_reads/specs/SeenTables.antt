-- The table of a name that a session sees, with its version on the shelf.
use Rattle.std.specs.Prelude.{◌≡◌, ◌≤◌, ℕ, List, Some}
use Rattle.vec_base.specs.declared.limits.TheConstants.{MOST_TABLES}
use Rattle.row_model.specs.Step.{found}
use Rattle.row_model.specs.declared.row.Named.{Named}
use Rattle.shadow_records.specs.PlacedTables.{plain}
use Rattle.table_version.specs.Versions.{VersionState}
use Rattle.txn_sessions.specs.Seen.{held_seen, session_at, state_of, version_at}
use Rattle.txn_sessions.specs.declared.machine.Machine.{Machine}

-- the version under the number is the table of the name
pub record IsSeen (machine : Machine) (at : ℕ) (name : List ℕ) (number : ℕ) (version : VersionState) : Type 0 where
  pub low : 1 ≤ number
  pub high : number ≤ MOST_TABLES
  pub there : version_at machine.shelf (held_seen machine at) number ≡ Some version
  pub named : Named
  pub is : found name (state_of machine) (session_at machine at) ≡ Some named
  pub same : named.table ≡ plain version.table

-- The state that a machine shows: each catalog by the versions that stand at its places.
use Rattle.std.specs.Prelude.{ℕ, List, [], map, Option, Some, None}
use Rattle.knn_plan.specs.Plans.{Planned}
use Rattle.row_model.specs.declared.row.Catalog.{Catalog}
use Rattle.row_model.specs.declared.row.Row.{Row}
use Rattle.row_model.specs.declared.state.CursorRows.{CursorRows}
use Rattle.row_model.specs.declared.state.Mark.{Mark as MarkOf}
use Rattle.row_model.specs.declared.state.Phase.{Phase as PhaseOf}
use Rattle.row_model.specs.declared.state.Phase.TheVariants as phases
use Rattle.row_model.specs.declared.state.Session.{Session}
use Rattle.row_model.specs.declared.state.State.{State}
use Rattle.snapshot_cursor.specs.Left.{rows_left}
use Rattle.table_rows.specs.ScanRows.{scan_rows}
use Rattle.table_version.specs.Versions.{VersionState}
use Rattle.version_shelf.specs.declared.held.Held.{Held}
use Rattle.version_shelf.specs.Numbers.{catalog_of, under}
use Rattle.version_shelf.specs.OnShelf.{shown}
use Rattle.txn_sessions.specs.declared.machine.Machine.{Machine}
use Rattle.txn_sessions.specs.declared.session.Mark.{Mark}
use Rattle.txn_sessions.specs.declared.session.OpenCursor.{OpenCursor}
use Rattle.txn_sessions.specs.declared.session.OpenSession.{OpenSession}
use Rattle.txn_sessions.specs.declared.session.Origin.{Origin}
use Rattle.txn_sessions.specs.declared.session.Origin.TheVariants.{Kept, Table}
use Rattle.txn_sessions.specs.declared.session.Phase.{Phase}
use Rattle.txn_sessions.specs.declared.session.Phase.TheVariants.{Idle, Reading, Writing}
use Rattle.txn_sessions.specs.Sessions.{held_in, open_at}

-- what stands at the places of a shelf, and under the numbers of a catalog
abbrev pub Versions : Type 0
Versions = List (Option VersionState)

-- ---- catalogs

abbrev pub catalog_at : Versions → Held → Catalog
catalog_at shelf held = catalog_of (shown shelf held.places)

-- the version under a number
abbrev pub version_at : Versions → Held → ℕ → Option VersionState
version_at shelf held number = under number (shown shelf held.places)

-- ---- sessions

abbrev pub phase_seen : Versions → Phase → PhaseOf
phase_seen shelf Idle = phases.Idle
phase_seen shelf (Reading held number) = phases.Reading (catalog_at shelf held) number
phase_seen shelf (Writing base held) = phases.Writing base (catalog_at shelf held)

abbrev pub mark_seen : Versions → Mark → MarkOf
mark_seen shelf m = record { name = m.name; catalog = catalog_at shelf m.held }

-- the rows that a scan by a plan answers, where there is a version
abbrev pub rows_in : Planned → Option VersionState → List Row
rows_in plan None = []
rows_in plan (Some version) = scan_rows plan version.table

-- over what a cursor goes
abbrev pub rows_over : Versions → Origin → List Row
rows_over shelf Kept = []
rows_over shelf (Table held number plan) = rows_in plan (version_at shelf held number)

abbrev pub cursor_seen : Versions → OpenCursor → CursorRows
cursor_seen shelf c = record { number = c.number; rows = rows_left c.cursor (rows_over shelf c.origin) }

abbrev pub session_seen : Versions → OpenSession → Session
session_seen shelf s = record {
  id = s.id;
  phase = phase_seen shelf s.phase;
  by_savepoint = s.by_savepoint;
  marks = map (mark_seen shelf) s.marks;
  cursors = map (cursor_seen shelf) s.cursors;
  last_cursor = s.last_cursor;
}

abbrev pub sessions_seen : Versions → List OpenSession → List Session
sessions_seen shelf sessions = map (session_seen shelf) sessions

-- ---- the machine

-- of the parts
abbrev pub state_from : Versions → Held → ℕ → ℕ → List OpenSession → State
state_from shelf held commits last_id sessions = record {
  catalog = catalog_at shelf held;
  commits = commits;
  last_id = last_id;
  sessions = sessions_seen shelf sessions;
}

abbrev pub state_of : Machine → State
state_of m = state_from m.shelf m.held m.commits m.last_id m.sessions.items

-- the session at a place
abbrev pub session_at : Machine → ℕ → Session
session_at m at = session_seen m.shelf (open_at m.sessions.items at)

-- its cursors
abbrev pub cursors_at : Machine → ℕ → List OpenCursor
cursors_at m at = (open_at m.sessions.items at).cursors

-- the catalog that it sees
abbrev pub held_seen : Machine → ℕ → Held
held_seen m at = held_in m.held (open_at m.sessions.items at).phase

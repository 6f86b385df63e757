-- What is kept of an open session, and how it changes.
use Rattle.std.specs.Prelude.{ℕ, suc, ◌+◌, Bool, true, false, ◌||◌, if◌then◌else◌, List, [], ◌∷◌, ◌++◌, take, slice_index_or, slice_set}
use Rattle.std.specs.List.{remove}
use Rattle.snapshot_cursor.specs.declared.cursor.Cursor.{Cursor}
use Rattle.snapshot_cursor.specs.declared.cursor.Cursor.TheVariants.{Rows}
use Rattle.version_shelf.specs.declared.held.Held.{Held}
use Rattle.txn_sessions.specs.declared.session.Mark.{Mark}
use Rattle.txn_sessions.specs.declared.session.OpenCursor.{OpenCursor}
use Rattle.txn_sessions.specs.declared.session.OpenSession.{OpenSession}
use Rattle.txn_sessions.specs.declared.session.Origin.{Origin}
use Rattle.txn_sessions.specs.declared.session.Origin.TheVariants.{Kept}
use Rattle.txn_sessions.specs.declared.session.Phase.{Phase}
use Rattle.txn_sessions.specs.declared.session.Phase.TheVariants.{Idle, Reading, Writing}

-- ---- phases

abbrev pub is_idle_phase : Phase → Bool
is_idle_phase Idle = true
is_idle_phase (Reading held number) = false
is_idle_phase (Writing base held) = false

abbrev pub is_writing_phase : Phase → Bool
is_writing_phase Idle = false
is_writing_phase (Reading held number) = false
is_writing_phase (Writing base held) = true

-- the phase with another catalog in place of its own
abbrev pub with_held : Held → Phase → Phase
with_held held Idle = Idle
with_held held (Reading old number) = Reading held number
with_held held (Writing base old) = Writing base held

-- a transaction begins on the committed catalog
abbrev pub begin_phase : Bool → Held → ℕ → Phase
begin_phase immediate held commits = if immediate then Writing commits held else Reading held commits

-- the catalog that is seen in a phase, where this one is committed
abbrev pub held_in : Held → Phase → Held
held_in held Idle = held
held_in held (Reading own number) = own
held_in held (Writing base own) = own

-- an idle session begins a transaction with a savepoint
abbrev pub saved_in : Held → ℕ → Phase → Phase
saved_in held commits Idle = Reading held commits
saved_in held commits (Reading own number) = Reading own number
saved_in held commits (Writing base own) = Writing base own

-- ---- sessions

abbrev pub session_new : ℕ → OpenSession
session_new id = record { id = id; phase = Idle; by_savepoint = false; marks = []; cursors = []; last_cursor = 0 }

-- a transaction begins, or ends where the phase is idle
abbrev pub entered : Phase → OpenSession → OpenSession
entered phase s = record s { phase = phase; marks = []; by_savepoint = false }

-- the cursors go too
abbrev pub left_idle : OpenSession → OpenSession
left_idle s = record (entered Idle s) { cursors = [] }

abbrev pub with_phase : Phase → OpenSession → OpenSession
with_phase phase s = record s { phase = phase }

-- the first marks stay
abbrev pub cut_to : ℕ → OpenSession → OpenSession
cut_to most s = record s { marks = take most s.marks }

-- one mark more
abbrev pub saved_session : List ℕ → Held → Phase → OpenSession → OpenSession
saved_session name held phase s = record s {
  phase = phase;
  by_savepoint = s.by_savepoint || is_idle_phase s.phase;
  marks = s.marks ++ record { name = name; held = held } ∷ [];
}

abbrev pub no_mark : Mark
no_mark = record { name = []; held = record { places = [] } }

abbrev pub mark_at : List Mark → ℕ → Mark
mark_at marks at = slice_index_or marks at no_mark

-- the phase gets the catalog of the mark; the marks up to it stay, and the cursors go
abbrev pub gone_back : ℕ → OpenSession → OpenSession
gone_back place s = record s { phase = with_held (mark_at s.marks place).held s.phase; marks = take (suc place) s.marks; cursors = [] }

-- ---- cursors

abbrev pub no_cursor : OpenCursor
no_cursor = record { number = 0; cursor = Rows [] 0; origin = Kept }

abbrev pub cursor_at : List OpenCursor → ℕ → OpenCursor
cursor_at cursors at = slice_index_or cursors at no_cursor

-- one cursor more, with the last number plus one
abbrev pub with_added : Cursor → Origin → OpenSession → OpenSession
with_added cursor origin s = record s {
  cursors = s.cursors ++ record { number = s.last_cursor + 1; cursor = cursor; origin = origin } ∷ [];
  last_cursor = s.last_cursor + 1;
}

abbrev pub without_place : ℕ → OpenSession → OpenSession
without_place place s = record s { cursors = remove s.cursors place }

-- another cursor stands at the place
abbrev pub exchanged : ℕ → OpenCursor → OpenSession → OpenSession
exchanged place cursor s = record s { cursors = slice_set s.cursors place cursor }

-- ---- all sessions

-- the one at a place
abbrev pub open_at : List OpenSession → ℕ → OpenSession
open_at sessions at = slice_index_or sessions at (session_new 0)

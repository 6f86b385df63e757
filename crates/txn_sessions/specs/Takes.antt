-- What a call in memory answers, and the machine after it.
use Rattle.std.specs.Prelude.{◌≡◌, ◌⊎◌, ◌+◌, ◌++◌, ℕ, List, length}
use Rattle.vec_base.specs.declared.refusal.Refusal.{Refusal}
use Rattle.vec_base.specs.declared.refusal.Refusal.TheVariants.{WantOfMemory}
use Rattle.vec_base.specs.declared.value.Value.{Value}
use Rattle.row_model.specs.declared.request.Reply.{Reply}
use Rattle.row_model.specs.declared.request.Reply.TheVariants.{Cursor, Refused}
use Rattle.row_model.specs.declared.state.Session.{Session}
use Rattle.row_model.specs.declared.state.State.{State}
use Rattle.row_model.specs.declared.statement.Statement.{Statement}
use Rattle.row_model.specs.Limits.{over_cursor_numbers, over_cursors}
use Rattle.row_model.specs.Machine.{in_session}
use Rattle.row_model.specs.Step.{executed, with_new_cursor}
use Rattle.version_shelf.specs.OnShelf.{shown}
use Rattle.txn_sessions.specs.declared.machine.Machine.{Machine}
use Rattle.txn_sessions.specs.Seen.{session_at, state_of}
use Rattle.txn_sessions.specs.Sound.{IsSound}

-- ---- answers in the session at a place

-- to a statement
abbrev pub executed_at : Machine → ℕ → Statement → Reply × State
executed_at m at statement = executed (state_of m) (session_at m at) statement

-- what refuses one more cursor
abbrev pub cursor_refusals : Session → List Refusal
cursor_refusals session = over_cursors (length session.cursors + 1) ++ over_cursor_numbers (session.last_cursor + 1)

-- one more cursor over these rows
abbrev pub cursor_added : Machine → ℕ → List (List Value) → Reply × State
cursor_added m at rows = (Cursor ((session_at m at).last_cursor + 1), in_session (state_of m) (with_new_cursor rows (session_at m at)))

-- ---- calls

-- The reply and the state are those of the answer, and nothing was committed.
pub record Takes (old : Machine) (answer : Reply × State) (reply : Reply) (new : Machine) : Type 0 where
  pub sound : IsSound new
  pub step : answer ≡ (reply, state_of new)
  pub count : new.commits ≡ old.commits
  pub committed : shown new.shelf new.held.places ≡ shown old.shelf old.held.places

-- the same, or want of memory, after which the state is as it was
abbrev pub TakesOrWants : Machine → Reply × State → Reply → Machine → Type 0
TakesOrWants old answer reply new = Takes old answer reply new ⊎ Takes old (Refused WantOfMemory, state_of old) reply new

-- The parts of the engine as the state that contracts see, where a session stands, and what a call answers.
use Rattle.std.specs.Prelude.{◌≡◌, ◌⊎◌, ℕ, ◌<◌, List, length, slice_index_or, slice_set, Some}
use Rattle.std.specs.List.{remove}
use Rattle.vec_base.specs.declared.refusal.Refusal.TheVariants.{WantOfMemory}
use Rattle.row_model.specs.declared.request.Reply.{Reply}
use Rattle.row_model.specs.declared.request.Reply.TheVariants.{Refused}
use Rattle.row_model.specs.declared.row.Catalog.{Catalog}
use Rattle.row_model.specs.declared.state.Session.{Session}
use Rattle.row_model.specs.declared.state.State.{State}
use Rattle.row_model.specs.Machine.{new_session, seen, session_of, with_session, without_session}
use Rattle.plain_engine.specs.declared.machine.Machine.{Machine}

abbrev pub state_of : Machine → State
state_of m = record { catalog = m.catalog; commits = m.commits; last_id = m.last_id; sessions = m.sessions.items }

-- the session at a place
abbrev pub session_in : List Session → ℕ → Session
session_in sessions at = slice_index_or sessions at (new_session 0)

abbrev pub session_at : Machine → ℕ → Session
session_at m at = session_in m.sessions.items at

-- the catalog that it sees
abbrev pub seen_at : Machine → ℕ → Catalog
seen_at m at = seen (state_of m) (session_at m at)

-- the first session of its id stands there
pub record IsAt (sessions : List Session) (at : ℕ) : Type 0 where
  pub within : at < length sessions
  pub put : (new : Session) → new.id ≡ (session_in sessions at).id → with_session new sessions ≡ slice_set sessions at new
  pub gone : without_session (session_in sessions at).id sessions ≡ remove sessions at

-- the session of the id stands there
pub record IsOfId (id : ℕ) (sessions : List Session) (at : ℕ) : Type 0 where
  pub first : IsAt sessions at
  pub same : (session_in sessions at).id ≡ id
  pub is : session_of id sessions ≡ Some (session_in sessions at)

-- this reply and this state; or want of memory, which changes nothing
abbrev pub Answers : Reply × State → Machine → Reply → Machine → Type 0
Answers answer old reply new = (answer ≡ (reply, state_of new)) ⊎ ((reply ≡ Refused WantOfMemory) × (state_of new ≡ state_of old))

-- What a request comes to before anything is committed.
use Rattle.std.specs.Prelude.{◌≡◌, ℕ, ◌+◌, ◌<◌, ◌==◌, ◌&&◌, Bool, not, if◌then◌else◌, List, [], ◌++◌, take, slice_set, length, IfSome, Option, Some, None}
use Rattle.vec_base.specs.declared.limits.TheConstants.{MOST_COMMITS}
use Rattle.vec_base.specs.declared.refusal.Refusal.{Refusal}
use Rattle.vec_base.specs.declared.refusal.Refusal.TheVariants.{TxnState}
use Rattle.row_model.specs.declared.request.Reply.{Reply}
use Rattle.row_model.specs.declared.request.Reply.TheVariants.{Done}
use Rattle.row_model.specs.declared.state.Session.{Session}
use Rattle.row_model.specs.declared.state.State.{State}
use Rattle.row_model.specs.Machine.{in_session, is_idle, writer_beside}
use Rattle.row_model.specs.RefusalOrder.{when}
use Rattle.row_model.specs.Step.{busy, committed}
use Rattle.version_shelf.specs.declared.held.Held.{Held}
use Rattle.version_shelf.specs.OnShelf.{shown}
use Rattle.txn_sessions.specs.declared.machine.Machine.{Machine}
use Rattle.txn_sessions.specs.declared.session.OpenSession.{OpenSession}
use Rattle.txn_sessions.specs.declared.session.Phase.{Phase}
use Rattle.txn_sessions.specs.declared.session.Phase.TheVariants.{Idle}
use Rattle.txn_sessions.specs.declared.turn.Turn.{Turn}
use Rattle.txn_sessions.specs.declared.turn.Turn.TheVariants.{Answered, Commits}
use Rattle.txn_sessions.specs.Seen.{state_from, state_of}
use Rattle.txn_sessions.specs.Sessions.{entered, open_at, saved_in}
use Rattle.txn_sessions.specs.Sound.{IsOn, IsSound}
use Rattle.txn_sessions.specs.Takes.{Takes, TakesOrWants}

-- ---- parts of the answers

-- what refuses BEGIN
abbrev pub begin_refusals : Bool → List Session → Session → List Refusal
begin_refusals immediate sessions session =
    when (not (is_idle session.phase)) TxnState ++ (if immediate then busy (writer_beside session.id sessions) else [])

-- the phase of a session with one more mark
abbrev pub saved_phase : Machine → ℕ → Phase
saved_phase m at = saved_in m.held m.commits (open_at m.sessions.items at).phase

-- RELEASE of the mark at a place
abbrev pub released_at : ℕ → State → Session → Reply × State
released_at place state session =
    if (place == 0) && session.by_savepoint
    then committed state session session.phase
    else (Done, in_session state (record session { marks = take place session.marks }))

-- the sessions with the transaction of one ended
abbrev pub ended_at : Option ℕ → List OpenSession → List OpenSession
ended_at None sessions = sessions
ended_at (Some at) sessions = slice_set sessions at (entered Idle (open_at sessions at))

-- ---- turns

-- The catalog is to be committed: nothing that is seen has changed, and the answer is that of its commit.
pub record IsPending (old : Machine) (answer : Reply × State) (held : Held) (reply : Reply) (ending : Option ℕ) (new : Machine) : Type 0 where
  pub sound : IsSound new
  pub on : IsOn new.shelf held
  pub ends : IfSome ending (λ at. at < length new.sessions.items)
  pub few : new.commits < MOST_COMMITS
  pub same : state_of new ≡ state_of old
  pub committed : shown new.shelf new.held.places ≡ shown old.shelf old.held.places
  pub step : answer ≡ (reply, state_from new.shelf held (new.commits + 1) new.last_id (ended_at ending new.sessions.items))

-- a turn that comes to the answer
abbrev pub TurnsTo : Machine → Reply × State → Turn → Machine → Type 0
TurnsTo old answer (Answered reply) new = Takes old answer reply new
TurnsTo old answer (Commits held reply ending) new = IsPending old answer held reply ending new

-- the same, or want of memory, after which the state is as it was
abbrev pub TurnsToOrWants : Machine → Reply × State → Turn → Machine → Type 0
TurnsToOrWants old answer (Answered reply) new = TakesOrWants old answer reply new
TurnsToOrWants old answer (Commits held reply ending) new = IsPending old answer held reply ending new

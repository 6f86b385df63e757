-- Requests by their sessions.
use Rattle.std.proofs.Common.{◌≡◌, ◌⊎◌, ℕ, None, inl, sym, ap, subst}
use Rattle.vec_base.specs.declared.refusal.Refusal.TheVariants.{NoSession, WantOfMemory}
use Rattle.row_model.specs.Machine.{on_session, session_of, where_open}
use Rattle.row_model.specs.declared.request.Reply.{Reply}
use Rattle.row_model.specs.declared.request.Reply.TheVariants.{Refused}
use Rattle.row_model.specs.declared.state.Session.{Session}
use Rattle.row_model.specs.declared.state.State.{State}
use Rattle.txn_sessions.specs.Lookups.{IsOfId}
use Rattle.txn_sessions.specs.Seen.{session_at, state_of}
use Rattle.txn_sessions.specs.Sound.{IsSound}
use Rattle.txn_sessions.specs.Takes.{Takes, TakesOrWants}
use Rattle.txn_sessions.specs.Turns.{TurnsTo, TurnsToOrWants}
use Rattle.txn_sessions.specs.declared.machine.Machine.{Machine}
use Rattle.txn_sessions.specs.declared.turn.Turn.{Turn}
use Rattle.txn_sessions.proofs.TurnLaws.{takes_none}

pub in-session : (m : Machine) (id at : ℕ) (f : Session → Reply × State) → IsOfId id m.sessions.items at → on_session (state_of m) id f ≡ f (session_at m at)
in-session m id at f found = ap (λ o. where_open (state_of m) o f) (found.is m.shelf)

pub no-session : (m : Machine) (id : ℕ) (f : Session → Reply × State) → session_of id (state_of m).sessions ≡ None → on_session (state_of m) id f ≡ (Refused NoSession, state_of m)
no-session m id f none = ap (λ o. where_open (state_of m) o f) none

pub takes-in : (old new : Machine) (id at : ℕ) (f : Session → Reply × State) (reply : Reply) → IsOfId id old.sessions.items at → Takes old (f (session_at old at)) reply new → Takes old (on_session (state_of old) id f) reply new
takes-in old new id at f reply found t = subst (λ (a : Reply × State). Takes old a reply new) (sym (in-session old id at f found)) t

pub wants-in : (old new : Machine) (id at : ℕ) (f : Session → Reply × State) (reply : Reply) → IsOfId id old.sessions.items at → TakesOrWants old (f (session_at old at)) reply new → TakesOrWants old (on_session (state_of old) id f) reply new
wants-in old new id at f reply found t = subst (λ (a : Reply × State). TakesOrWants old a reply new) (sym (in-session old id at f found)) t

pub turns-in : (old new : Machine) (id at : ℕ) (f : Session → Reply × State) (turn : Turn) → IsOfId id old.sessions.items at → TurnsTo old (f (session_at old at)) turn new → TurnsTo old (on_session (state_of old) id f) turn new
turns-in old new id at f turn found t = subst (λ (a : Reply × State). TurnsTo old a turn new) (sym (in-session old id at f found)) t

pub turns-wants-in : (old new : Machine) (id at : ℕ) (f : Session → Reply × State) (turn : Turn) → IsOfId id old.sessions.items at → TurnsToOrWants old (f (session_at old at)) turn new → TurnsToOrWants old (on_session (state_of old) id f) turn new
turns-wants-in old new id at f turn found t = subst (λ (a : Reply × State). TurnsToOrWants old a turn new) (sym (in-session old id at f found)) t

-- where no session has the id
pub takes-nowhere : (m : Machine) (id : ℕ) (f : Session → Reply × State) → IsSound m → session_of id (state_of m).sessions ≡ None → Takes m (on_session (state_of m) id f) (Refused NoSession) m
takes-nowhere m id f sound none = takes_none m (on_session (state_of m) id f) (Refused NoSession) sound (no-session m id f none)

pub wants-nowhere : (m : Machine) (id : ℕ) (f : Session → Reply × State) → IsSound m → session_of id (state_of m).sessions ≡ None → TakesOrWants m (on_session (state_of m) id f) (Refused NoSession) m
wants-nowhere m id f sound none = inl (takes-nowhere m id f sound none)

-- a page in a session
pub page-in : (m : Machine) (id at : ℕ) (f : Session → Reply × State) (reply : Reply) → IsOfId id m.sessions.items at → ((f (session_at m at)).0 ≡ reply) ⊎ (reply ≡ Refused WantOfMemory) → ((on_session (state_of m) id f).0 ≡ reply) ⊎ (reply ≡ Refused WantOfMemory)
page-in m id at f reply found t = subst (λ (a : Reply × State). (a.0 ≡ reply) ⊎ (reply ≡ Refused WantOfMemory)) (sym (in-session m id at f found)) t

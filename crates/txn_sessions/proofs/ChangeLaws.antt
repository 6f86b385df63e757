-- The catalog that a session sees, and a changed one that takes its place.
use Rattle.std.proofs.Common.{◌≡◌, ℕ, ◌-◌, ◌<◌, List, [], ◌∷◌, ◌++◌, length, map, get_or, Option, Some, None, Result, Ok, inl, inr, refl, sym, ap, ap₂, ◌∙◌, subst}
use Rattle.std.proofs.Math.ListN.{get_or-map}
use Rattle.std.proofs.lemmas.List.{length-map}
use Rattle.std.specs.List.{AllByRecursion}
use Rattle.std.specs.Option.{option_or}
use Rattle.vec_base.specs.declared.refusal.Refusal.{Refusal}
use Rattle.vec_base.specs.declared.refusal.Refusal.TheVariants.{WantOfMemory}
use Rattle.row_model.specs.declared.request.Reply.{Reply}
use Rattle.row_model.specs.declared.request.Reply.TheVariants.{Refused}
use Rattle.row_model.specs.declared.row.Catalog.{Catalog}
use Rattle.row_model.specs.declared.state.Session.{Session}
use Rattle.row_model.specs.declared.state.State.{State}
use Rattle.row_model.specs.Machine.{in_session, seen, seen_in}
use Rattle.row_model.specs.RefusalOrder.{first}
use Rattle.row_model.specs.Step.{busy_beside, old_snapshot, spent_at_once, taken_in, writes, wrote}
use Rattle.row_model.specs.Valid.{IsValidCatalog, IsValidPhase, IsValidSession, IsValidState}
use Rattle.table_version.specs.Versions.{KeepsOrigin, VersionState}
use Rattle.version_shelf.specs.declared.held.Held.{Held}
use Rattle.version_shelf.specs.Numbers.{IsNumber}
use Rattle.version_shelf.specs.OnShelf.{at_place, shown}
use Rattle.version_shelf.specs.Shares.{ComesFrom, FollowsIn}
use Rattle.txn_sessions.specs.declared.machine.Machine.{Machine}
use Rattle.txn_sessions.specs.declared.session.OpenSession.{OpenSession}
use Rattle.txn_sessions.specs.declared.session.Phase.{Phase}
use Rattle.txn_sessions.specs.declared.session.Phase.TheVariants.{Idle, Reading, Writing}
use Rattle.txn_sessions.specs.declared.turn.Turn.{Turn}
use Rattle.txn_sessions.specs.declared.turn.Turn.TheVariants.{Answered, Commits}
use Rattle.txn_sessions.specs.Lookups.{IsAt}
use Rattle.txn_sessions.specs.Moves.{Moved}
use Rattle.txn_sessions.specs.Seen.{Versions, catalog_at, held_seen, phase_seen, session_at, session_seen, state_of}
use Rattle.txn_sessions.specs.Sessions.{held_in, open_at, session_new, with_phase}
use Rattle.txn_sessions.specs.Sound.{InPhase, IsOn, IsSound, IsSoundSession}
use Rattle.txn_sessions.specs.Turns.{TurnsTo, TurnsToOrWants}
use Rattle.txn_sessions.proofs.SessionLaws.{on_at}
use Rattle.txn_sessions.proofs.TurnLaws.{each_at, unless-none, unless-some}

-- ---- a changed catalog takes its place

pub with_phase-on : (shelf : Versions) (phase : Phase) (s : OpenSession) → InPhase (IsOn shelf) phase → IsSoundSession shelf s → IsSoundSession shelf (with_phase phase s)
with_phase-on shelf phase s one on = record { phase = one; marks = on.marks; cursors = on.cursors }

abbrev taken : Machine → ℕ → Reply → Held → Reply × State
taken old at reply held = (reply, taken_in (state_of old) (session_at old at) (session_at old at).phase (catalog_at old.shelf held))

abbrev phased : Machine → ℕ → Reply → Phase → Reply × State
phased old at reply phase = (reply, in_session (state_of old) (session_seen old.shelf (with_phase phase (open_at old.sessions.items at))))

pub taken-reading : (old : Machine) (at : ℕ) (reply : Reply) (held own : Held) (number : ℕ) → (open_at old.sessions.items at).phase ≡ Reading own number → taken old at reply held ≡ phased old at reply (Writing number held)
taken-reading old at reply held own number is = ap (λ (p : Phase). (reply, taken_in (state_of old) (session_at old at) (phase_seen old.shelf p) (catalog_at old.shelf held))) is

pub taken-writing : (old : Machine) (at : ℕ) (reply : Reply) (held own : Held) (base : ℕ) → (open_at old.sessions.items at).phase ≡ Writing base own → taken old at reply held ≡ phased old at reply (Writing base held)
taken-writing old at reply held own base is = ap (λ (p : Phase). (reply, taken_in (state_of old) (session_at old at) (phase_seen old.shelf p) (catalog_at old.shelf held))) is

-- ---- what refuses a write

pub first-or : (xs ys : List Refusal) → option_or (first xs) (first ys) ≡ first (xs ++ ys)
first-or [] ys = refl
first-or (x ∷ xs) ys = refl

pub writes-barred : (s : State) (z : Session) (fault : Option Refusal) (change : Result (Reply × Catalog) Refusal) (refusal : Refusal) → fault ≡ None → Some refusal ≡ first (busy_beside s z ++ old_snapshot s z.phase) →
    writes s z fault change ≡ (Refused refusal, s)
writes-barred s z fault change refusal none h = rw none (unless-some (busy_beside s z ++ old_snapshot s z.phase) s (wrote s z change) refusal h)

pub writes-made : (s : State) (z : Session) (fault : Option Refusal) (change made : Result (Reply × Catalog) Refusal) → fault ≡ None → None ≡ first (busy_beside s z ++ old_snapshot s z.phase) → change ≡ made →
    writes s z fault change ≡ wrote s z made
writes-made s z fault change made none h is = rw none (unless-none (busy_beside s z ++ old_snapshot s z.phase) s (wrote s z change) h ∙ ap (λ c. wrote s z c) is)

-- ---- the shelf has moved

session-in : (m : Machine) (at : ℕ) → get_or (state_of m).sessions at (session_seen m.shelf (session_new 0)) ≡ session_at m at
session-in m at = get_or-map (session_seen m.shelf) m.sessions.items at (session_new 0)

pub session-moved : (old mid : Machine) (at : ℕ) → Moved old mid → session_at mid at ≡ session_at old at
session-moved old mid at moved =
    sym (session-in mid at) ∙ ap (λ (s : State). get_or s.sessions at (session_seen old.shelf (session_new 0))) moved.same ∙ session-in old at

pub at-moved : (old mid : Machine) (at : ℕ) → Moved old mid → IsAt old.sessions.items at → IsAt mid.sessions.items at
at-moved old mid at moved a = subst (λ (ss : List OpenSession). IsAt ss at) (sym moved.sessions) a

pub turns-moved : (old mid new : Machine) (a b : Reply × State) (turn : Turn) → Moved old mid → b ≡ a → TurnsTo mid a turn new → TurnsTo old b turn new
turns-moved old mid new a b (Answered reply) moved same t = record { sound = t.sound; step = same ∙ t.step; count = t.count ∙ ap (λ (s : State). s.commits) moved.same; committed = t.committed ∙ moved.committed }
turns-moved old mid new a b (Commits held reply ends) moved same t =
    record { sound = t.sound; on = t.on; ends = t.ends; few = t.few; same = t.same ∙ moved.same; committed = t.committed ∙ moved.committed; step = same ∙ t.step }

pub wants-moved : (old mid new : Machine) (a b : Reply × State) (turn : Turn) → Moved old mid → b ≡ a → TurnsToOrWants mid a turn new → TurnsToOrWants old b turn new
wants-moved old mid new a b (Answered reply) moved same (inl t) =
    inl (record { sound = t.sound; step = same ∙ t.step; count = t.count ∙ ap (λ (s : State). s.commits) moved.same; committed = t.committed ∙ moved.committed })
wants-moved old mid new a b (Answered reply) moved same (inr t) =
    inr (record { sound = t.sound; step = ap (λ (s : State). (Refused WantOfMemory, s)) (sym moved.same) ∙ t.step; count = t.count ∙ ap (λ (s : State). s.commits) moved.same; committed = t.committed ∙ moved.committed })
wants-moved old mid new a b (Commits held reply ends) moved same t =
    record { sound = t.sound; on = t.on; ends = t.ends; few = t.few; same = t.same ∙ moved.same; committed = t.committed ∙ moved.committed; step = same ∙ t.step }

pub may-want : (old new : Machine) (a : Reply × State) (turn : Turn) → TurnsTo old a turn new → TurnsToOrWants old a turn new
may-want old new a (Answered reply) t = inl t
may-want old new a (Commits held reply ends) t = t

-- the catalog with a version that was put on the shelf takes its place
pub wrote-moved : (old mid new : Machine) (at : ℕ) (reply : Reply) (held : Held) (catalog : Catalog) (turn : Turn) → Moved old mid → first (spent_at_once (state_of old) (session_at old at).phase) ≡ None →
    catalog_at mid.shelf held ≡ catalog → TurnsTo mid (reply, taken_in (state_of mid) (session_at mid at) (session_at mid at).phase (catalog_at mid.shelf held)) turn new →
    TurnsToOrWants old (wrote (state_of old) (session_at old at) (Ok (reply, catalog))) turn new
wrote-moved old mid new at reply held catalog turn moved room shows t =
    may-want old new _ turn
    (turns-moved old mid new _ _ turn moved
    (unless-none (spent_at_once (state_of old) (session_at old at).phase) _ _ (sym room)
    ∙ ap₂ (λ (s : State) (c : Catalog). (reply, taken_in s (session_at old at) (session_at old at).phase c)) (sym moved.same) (sym shows)
    ∙ ap (λ (z : Session). (reply, taken_in (state_of mid) z z.phase (catalog_at mid.shelf held))) (sym (session-moved old mid at moved))) t)

-- ---- the catalog that a session sees

seen-in : (m : Machine) (p : Phase) → seen_in (state_of m) (phase_seen m.shelf p) ≡ catalog_at m.shelf (held_in m.held p)
seen-in m Idle = refl
seen-in m (Reading held number) = refl
seen-in m (Writing base held) = refl

pub seen-is : (m : Machine) (at : ℕ) → seen (state_of m) (session_at m at) ≡ catalog_at m.shelf (held_seen m at)
seen-is m at = seen-in m (open_at m.sessions.items at).phase

held-in-on : (m : Machine) (p : Phase) → IsSound m → InPhase (IsOn m.shelf) p → IsOn m.shelf (held_in m.held p)
held-in-on m Idle sound on = sound.committed
held-in-on m (Reading held number) sound on = on
held-in-on m (Writing base held) sound on = on

pub held-seen-on : (m : Machine) (at : ℕ) → IsSound m → at < length m.sessions.items → IsOn m.shelf (held_seen m at)
held-seen-on m at sound lt = held-in-on m (open_at m.sessions.items at).phase sound (on_at m at sound lt).phase

-- ---- it is valid in a valid state

phase-valid : (m : Machine) (p : Phase) → IsValidCatalog (state_of m).catalog → IsValidPhase (phase_seen m.shelf p) → IsValidCatalog (catalog_at m.shelf (held_in m.held p))
phase-valid m Idle committed valid = committed
phase-valid m (Reading held number) committed valid = valid
phase-valid m (Writing base held) committed valid = valid

each-seen : (P : Session → Type 0) (m : Machine) (sessions : List OpenSession) (at : ℕ) → AllByRecursion P (map (session_seen m.shelf) sessions) → at < length sessions → P (session_seen m.shelf (get_or sessions at (session_new 0)))
each-seen P m sessions at all lt =
    subst P (get_or-map (session_seen m.shelf) sessions at (session_new 0))
    (each_at P (map (session_seen m.shelf) sessions) at (session_seen m.shelf (session_new 0)) all (rw (length-map sessions (session_seen m.shelf)) lt))

pub seen-valid : (m : Machine) (at : ℕ) → IsValidState (state_of m) → at < length m.sessions.items → IsValidCatalog (catalog_at m.shelf (held_seen m at))
seen-valid m at valid lt = phase-valid m (open_at m.sessions.items at).phase valid.committed (each-seen IsValidSession m m.sessions.items at valid.sessions lt).phase

-- ---- the version under a number

some-is : {A : Type 0} (a b : A) → Some a ≡ Some b → a ≡ b
some-is a b h = cc

-- the version that the shelf lends is that of the table
pub version-is : (name : List ℕ) (shelf : Versions) (places : List (Option ℕ)) (number : ℕ) (v : VersionState) (found : IsNumber name (shown shelf places) number) → Some v ≡ at_place shelf (get_or places (number - 1) None) → found.from.version ≡ v
version-is name shelf places number v found lent =
    some-is found.from.version v (sym found.from.there ∙ get_or-map (at_place shelf) places (number - 1) None ∙ sym lent)

-- ---- what a version follows

follows-on : (vs : Option VersionState) (a b : VersionState) → KeepsOrigin a b → FollowsIn vs (Some a) → FollowsIn vs (Some b)
follows-on None a b kept h = h
follows-on (Some v) a b kept h = kept v.table h

pub comes-on : (vs : Versions) (o : Option ℕ) (a b : VersionState) → KeepsOrigin a b → ComesFrom vs o (Some a) → ComesFrom vs o (Some b)
comes-on vs None a b kept h = tt
comes-on vs (Some q) a b kept h = follows-on (get_or vs q None) a b kept h

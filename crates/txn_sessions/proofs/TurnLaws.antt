-- A session that changes, and what the machine makes of it.
use Rattle.std.proofs.Common.{◌≡◌, ℕ, zero, suc, ◌<◌, List, [], ◌∷◌, ◌++◌, length, get_or, set, Some, None, refl, sym, ap, ◌∙◌, arith}
use Rattle.std.specs.List.{AllByRecursion, remove}
use Rattle.std.proofs.lemmas.List.{map-set}
use Rattle.vec_base.specs.declared.refusal.Refusal.{Refusal}
use Rattle.row_model.specs.declared.request.Reply.{Reply}
use Rattle.row_model.specs.declared.state.State.{State}
use Rattle.row_model.specs.RefusalOrder.{first}
use Rattle.row_model.specs.Machine.{in_session, refused, unless}
use Rattle.version_shelf.specs.declared.held.Held.{Held}
use Rattle.txn_sessions.specs.declared.machine.Machine.{Machine}
use Rattle.txn_sessions.specs.declared.session.OpenSession.{OpenSession}
use Rattle.txn_sessions.specs.Lookups.{IsAt}
use Rattle.txn_sessions.specs.Sessions.{open_at}
use Rattle.txn_sessions.specs.Seen.{Versions, session_seen, state_from, state_of}
use Rattle.txn_sessions.specs.Sound.{IsSound, IsSoundSession}
use Rattle.txn_sessions.specs.Takes.{Takes}

-- ---- lists of refusals

pub unless-some : (refusals : List Refusal) (state : State) (answer : Reply × State) (refusal : Refusal) → Some refusal ≡ first refusals → unless refusals state answer ≡ refused state refusal
unless-some [] state answer refusal h = cc
unless-some (r ∷ rs) state answer refusal h = (let same : refusal ≡ r = cc in ap (λ (z : Refusal). refused state z) (sym same))

pub unless-none : (refusals : List Refusal) (state : State) (answer : Reply × State) → None ≡ first refusals → unless refusals state answer ≡ answer
unless-none [] state answer h = refl
unless-none (r ∷ rs) state answer h = cc

-- ---- a list with one changed

pub each_set : {A : Type 0} (P : A → Type 0) (xs : List A) (i : ℕ) (x : A) → AllByRecursion P xs → P x → AllByRecursion P (set xs i x)
each_set P [] i x all one = tt
each_set P (y ∷ ys) zero x all one = (one, all.1)
each_set P (y ∷ ys) (suc i) x all one = (all.0, each_set P ys i x all.1 one)

pub each_at : {A : Type 0} (P : A → Type 0) (xs : List A) (i : ℕ) (d : A) → AllByRecursion P xs → i < length xs → P (get_or xs i d)
each_at P [] i d all lt = absurd (omega arith)
each_at P (y ∷ ys) zero d all lt = all.0
each_at P (y ∷ ys) (suc i) d all lt = each_at P ys i d all.1 (omega arith)

pub each_removed : {A : Type 0} (P : A → Type 0) (xs : List A) (i : ℕ) → AllByRecursion P xs → AllByRecursion P (remove xs i)
each_removed P [] zero all = tt
each_removed P [] (suc i) all = tt
each_removed P (y ∷ ys) zero all = all.1
each_removed P (y ∷ ys) (suc i) all = (all.0, each_removed P ys i all.1)

pub each_more : {A : Type 0} (P : A → Type 0) (xs : List A) (x : A) → AllByRecursion P xs → P x → AllByRecursion P (xs ++ x ∷ [])
each_more P [] x all one = (one, tt)
each_more P (y ∷ ys) x all one = (all.0, each_more P ys x all.1 one)

-- ---- the machine with one session changed

pub session_set : (shelf : Versions) (held : Held) (commits last_id : ℕ) (sessions : List OpenSession) (at : ℕ) (s : OpenSession) → IsAt sessions at → s.id ≡ (open_at sessions at).id →
    state_from shelf held commits last_id (set sessions at s) ≡ in_session (state_from shelf held commits last_id sessions) (session_seen shelf s)
session_set shelf held commits last_id sessions at s a own =
    ap (λ seen. record { catalog = (state_from shelf held commits last_id sessions).catalog; commits = commits; last_id = last_id; sessions = seen })
    (map-set (session_seen shelf) sessions at s ∙ sym (a.put shelf (session_seen shelf s) own))

pub takes_session : (old : Machine) (answer : Reply × State) (reply : Reply) (new : Machine) (at : ℕ) (s : OpenSession) → IsSound old → IsAt old.sessions.items at → s.id ≡ (open_at old.sessions.items at).id → IsSoundSession old.shelf s →
    answer ≡ (reply, in_session (state_of old) (session_seen old.shelf s)) →
    new.shelf ≡ old.shelf → new.held ≡ old.held → new.commits ≡ old.commits → new.last_id ≡ old.last_id → new.sessions.items ≡ set old.sessions.items at s → Takes old answer reply new
takes_session old answer reply new at s sound a own on is shelf held commits last_id same = record {
  sound = rw (shelf, held, same) (record { committed = sound.committed; in_sessions = each_set (IsSoundSession old.shelf) old.sessions.items at s sound.in_sessions on });
  step = is ∙ ap (λ (t : State). (reply, t)) (sym (session_set old.shelf old.held old.commits old.last_id old.sessions.items at s a own) ∙ rw (shelf, held, commits, last_id, same) refl);
  count = commits;
  committed = rw (shelf, held) refl;
}

pub takes_none : (old : Machine) (answer : Reply × State) (reply : Reply) → IsSound old → answer ≡ (reply, state_of old) → Takes old answer reply old
takes_none old answer reply sound is = record { sound = sound; step = is; count = refl; committed = refl }

-- One request to the engine.
use Rattle.std.proofs.Common.{◌≡◌, ℕ, ◌+◌, ◌≤◌, Bool, true, false, List, Option, Some, None, inl, inr, refl, sym, ap, ap₂, ◌∙◌, subst, arith, IsTrue}
use Rattle.std.specs.Prelude.{◌==◌, if◌then◌else◌}
use Rattle.std.proofs.lemmas.Bool.{false≢true}
use Rattle.vec_base.specs.Streams.{Rose}
use Rattle.vec_base.specs.declared.refusal.Refusal.TheVariants.{StoreFault, WantOfMemory}
use Rattle.row_model.specs.declared.request.Reply.{Reply}
use Rattle.row_model.specs.declared.request.Reply.TheVariants.{Refused}
use Rattle.row_model.specs.declared.request.Request.{Request}
use Rattle.row_model.specs.declared.row.Catalog.{Catalog}
use Rattle.row_model.specs.declared.state.State.{State}
use Rattle.row_model.specs.Step.{answer_of}
use Rattle.row_model.specs.WellFormed.{IsWellFormedRequest}
use Rattle.row_model.specs.Valid.{IsValidState}
use Rattle.row_model.proofs.ValidityStates.{steps_valid}
use Rattle.run_commits.specs.Commits.{Acknowledged, Commit, Faulted, Starved, answered_by, commit_of, is_fault}
use Rattle.run_commits.proofs.OwnLaws.{own_answer}
use Rattle.run_commits.proofs.StepLaws.{a_commit, acknowledged_by, answer_sound, no_commit, refuses}
use Rattle.shadow_keeper.specs.declared.keeper.Kept.{Kept}
use Rattle.shadow_keeper.specs.declared.keeper.Kept.TheVariants.{Done, Failed, Memory}
use Rattle.table_version.specs.Versions.{VersionState}
use Rattle.txn_commits.specs.Ending.{Finishes, Holds, IsReady}
use Rattle.txn_commits.specs.Keeping.{Meanings, told_stops}
use Rattle.txn_commits.specs.Outcomes.{commit_as, if_kept, reply_as}
use Rattle.txn_commits.specs.Stops.{Leaves}
use Rattle.txn_core.specs.Engines.{At, Costs, Served, engine_stops}
use Rattle.txn_core.specs.Kept.{IsKept}
use Rattle.txn_sessions.specs.Seen.{state_from, state_of}
use Rattle.txn_sessions.specs.Sound.{IsSound}
use Rattle.txn_sessions.specs.Takes.{Takes, TakesOrWants}
use Rattle.txn_sessions.specs.Turns.{TurnsTo, TurnsToOrWants, ended_at}
use Rattle.txn_sessions.specs.declared.machine.Machine.{Machine}
use Rattle.txn_sessions.specs.declared.turn.Turn.{Turn}
use Rattle.txn_sessions.specs.declared.turn.Turn.TheVariants.{Answered, Commits}
use Rattle.version_shelf.specs.OnShelf.{shown}
use Rattle.version_shelf.specs.Records.{HoldsRecords}

-- ---- a turn leaves all that the keeper has to do with

pub turn-sound : (old new : Machine) (a : Reply × State) (turn : Turn) → TurnsToOrWants old a turn new → IsSound new
turn-sound old new a (Answered reply) (inl t) = t.sound
turn-sound old new a (Answered reply) (inr t) = t.sound
turn-sound old new a (Commits held reply ending) t = t.sound

turn-shown : (old new : Machine) (a : Reply × State) (turn : Turn) → TurnsToOrWants old a turn new → shown new.shelf new.held.places ≡ shown old.shelf old.held.places
turn-shown old new a (Answered reply) (inl t) = t.committed
turn-shown old new a (Answered reply) (inr t) = t.committed
turn-shown old new a (Commits held reply ending) t = t.committed

pub turn-holds : {K : Type 0} (M : Meanings K) (old new : Machine) (k : K) (a : Reply × State) (turn : Turn) → TurnsToOrWants old a turn new → Holds M old k → Holds M new k
turn-holds M old new k a turn t holds told = subst (λ (vs : List (Option VersionState)). HoldsRecords (M.tables k) vs) (sym (turn-shown old new a turn t)) (holds told)

-- the state after an answer is valid
answer-valid : (s next : State) (request : Request) (reply : Reply) → IsValidState s → IsWellFormedRequest request → answer_of s request ≡ (reply, next) → IsValidState next
answer-valid s next request reply valid formed step = steps_valid s next request reply valid formed (inl step)

pub turn-valid : (old new : Machine) (request : Request) (turn : Turn) → IsValidState (state_of old) → IsWellFormedRequest request → TurnsToOrWants old (answer_of (state_of old) request) turn new → IsValidState (state_of new)
turn-valid old new request (Answered reply) valid formed (inl t) = answer-valid (state_of old) (state_of new) request reply valid formed t.step
turn-valid old new request (Answered reply) valid formed (inr t) = subst IsValidState (ap (λ a. a.1) t.step) valid
turn-valid old new request (Commits held reply ending) valid formed t = subst IsValidState (sym t.same) valid

pub turn-ready : (old new : Machine) (request : Request) (turn : Turn) → IsValidState (state_of old) → IsWellFormedRequest request → TurnsToOrWants old (answer_of (state_of old) request) turn new → IsReady new turn
turn-ready old new request (Answered reply) valid formed t = tt
turn-ready old new request (Commits held reply ending) valid formed t =
    let after = state_from new.shelf held (new.commits + 1) new.last_id (ended_at ending new.sessions.items) in
    let valid_after : IsValidState after = answer-valid (state_of old) after request reply valid formed t.step in
    record { on = t.on; valid = valid_after.committed; ends = t.ends; few = t.few }

-- ---- the machine's own answers

-- the machine itself answers no fault of the store
own_by : (s : State) (request : Request) (reply : Reply) (next : State) → answer_of s request ≡ (reply, next) → is_fault reply ≡ false
own_by s request reply next e = subst (λ (r : Reply). is_fault r ≡ false) (ap (λ a. a.0) e) (own_answer s request)

-- an answer with another number of commits makes one, and is no refusal
commits_by : (s : State) (request : Request) (reply : Reply) (next : State) → answer_of s request ≡ (reply, next) → (next.commits ≡ s.commits → ⊥) →
    ((answer_of s request).1.commits ≡ s.commits + 1) × (refuses reply ≡ false)
commits_by s request reply next e differ =
    let to : (answer_of s request).1 ≡ next = ap (λ a. a.1) e in
    elim (answer_sound s request) [
      | inl kept ↦ absurd (differ (ap (λ (t : State). t.commits) (sym to ∙ kept)))
      | inr (fine, inl made) ↦ (made, subst (λ (r : Reply). refuses r ≡ false) (ap (λ a. a.0) e) fine)
      | inr (fine, inr kept) ↦ absurd (differ (sym (ap (λ (t : State). t.commits) to) ∙ kept.1))
    ]

own_costs : (reply : Reply) (old new : ℕ) → is_fault reply ≡ false → old ≤ new → Costs reply old new
own_costs reply old new own later = record { later = later; rose = λ fault. absurd (false≢true (sym own ∙ fault)) }

some_none : (c : Commit) → Some c ≡ None → ⊥
some_none c e = cc

abbrev commit_by : Bool → Reply → Catalog → Option Commit
commit_by b reply catalog = if b then Some (answered_by reply catalog) else None

module _ {K : Type 0} (M : Meanings K) where
  -- ---- a request that makes no commit

  took : (old : At K) (request : Request) (reply : Reply) (next : State) → answer_of old.state request ≡ (reply, next) → next.commits ≡ old.state.commits →
      Served M old request reply (record { state = next; keeper = old.keeper })
  took old request reply next e same = record {
    step = inl e;
    leaves = subst (λ (c : Option Commit). Leaves (engine_stops M) old.state.catalog old c (record { state = next; keeper = old.keeper }))
        (sym (no_commit old.state request reply (ap (λ a. a.1.commits) e ∙ same)))
        (record { later = omega arith; during = λ moment left le is. inl is; now = λ left is. is });
    costs = own_costs reply (M.faults old.keeper) (M.faults old.keeper) (own_by old.state request reply next e) (omega arith);
    told = refl;
    kept = λ none. refl;
  }

  starved_leaves : (s : State) (k : K) (b : Bool) (next : Catalog) → Leaves (engine_stops M) s.catalog (record { state = s; keeper = k }) (commit_by b (Refused WantOfMemory) next) (record { state = s; keeper = k })
  starved_leaves s k true next = record { later = omega arith; during = λ moment left le is. inl is; now = λ left is. is }
  starved_leaves s k false next = record { later = omega arith; during = λ moment left le is. inl is; now = λ left is. is }

  -- want of memory leaves all
  starved : (s : State) (k : K) (request : Request) → Served M (record { state = s; keeper = k }) request (Refused WantOfMemory) (record { state = s; keeper = k })
  starved s k request = record {
    step = inr (inl (refl, refl));
    leaves = starved_leaves s k ((answer_of s request).1.commits == s.commits + 1) (answer_of s request).1.catalog;
    costs = own_costs (Refused WantOfMemory) (M.faults k) (M.faults k) refl (omega arith);
    told = refl;
    kept = λ none. refl;
  }

  -- ---- a request that makes or attempts one

  took_commit : (old : At K) (keeper : K) (request : Request) (reply : Reply) (next : State) (answer : Kept) → answer_of old.state request ≡ (reply, next) → (next.commits ≡ old.state.commits → ⊥) →
      Leaves (told_stops M) old.state.catalog old.keeper (Some (commit_as answer next.catalog)) keeper → M.tells keeper ≡ M.tells old.keeper → M.faults old.keeper ≤ M.faults keeper →
      (answer ≡ Failed → Rose (M.faults old.keeper) (M.faults keeper)) → Served M old request (reply_as answer reply) (record { state = if_kept answer next old.state; keeper = keeper })
  took_commit old keeper request reply next Done e differ leaves told later failed =
      let made = commits_by old.state request reply next e differ in
      let same : (answer_of old.state request).1.catalog ≡ next.catalog = ap (λ a. a.1.catalog) e in
      record {
        step = inl e;
        leaves = subst (λ (c : Option Commit). Leaves (engine_stops M) old.state.catalog old c (record { state = next; keeper = keeper }))
            (sym (a_commit old.state request reply made.0 ∙ ap (λ c. Some c) (acknowledged_by reply _ made.1 ∙ ap (λ c. Acknowledged c) same)))
            (record { later = leaves.later; during = leaves.during; now = leaves.now });
        costs = own_costs reply (M.faults old.keeper) (M.faults keeper) (own_by old.state request reply next e) later;
        told = told;
        kept = λ none. absurd (some_none _ (sym (a_commit old.state request reply made.0) ∙ none));
      }
  took_commit old keeper request reply next Failed e differ leaves told later failed =
      let made = commits_by old.state request reply next e differ in
      let same : (answer_of old.state request).1.catalog ≡ next.catalog = ap (λ a. a.1.catalog) e in
      record {
        step = inr (inr (made.0, refl, refl));
        leaves = subst (λ (c : Option Commit). Leaves (engine_stops M) old.state.catalog old c (record { state = old.state; keeper = keeper }))
            (sym (a_commit old.state request (Refused StoreFault) made.0 ∙ ap (λ c. Some (Faulted c)) same))
            (record { later = leaves.later; during = leaves.during; now = leaves.now });
        costs = record { later = later; rose = λ fault. failed refl };
        told = told;
        kept = λ none. absurd (some_none _ (sym (a_commit old.state request (Refused StoreFault) made.0) ∙ none));
      }
  took_commit old keeper request reply next Memory e differ leaves told later failed =
      let made = commits_by old.state request reply next e differ in
      let same : (answer_of old.state request).1.catalog ≡ next.catalog = ap (λ a. a.1.catalog) e in
      record {
        step = inr (inl (refl, refl));
        leaves = subst (λ (c : Option Commit). Leaves (engine_stops M) old.state.catalog old c (record { state = old.state; keeper = keeper }))
            (sym (a_commit old.state request (Refused WantOfMemory) made.0 ∙ ap (λ c. Some (Starved c)) same))
            (record { later = leaves.later; during = leaves.during; now = leaves.now });
        costs = own_costs (Refused WantOfMemory) (M.faults old.keeper) (M.faults keeper) refl later;
        told = told;
        kept = λ none. absurd (some_none _ (sym (a_commit old.state request (Refused WantOfMemory) made.0) ∙ none));
      }

  -- ---- a turn and its end

  serves : (before : At K) (request : Request) (result reply : Reply) (state next : State) (after keeper : K) → result ≡ reply → state ≡ next → after ≡ keeper →
      Served M before request reply (record { state = next; keeper = keeper }) → Served M before request result (record { state = state; keeper = after })
  serves before request result reply state next after keeper a b c served =
      subst (λ (r : Reply). Served M before request r (record { state = state; keeper = after })) (sym a)
      (subst (λ (s : State). Served M before request reply (record { state = s; keeper = after })) (sym b)
      (subst (λ (k : K). Served M before request reply (record { state = next; keeper = k })) (sym c) served))

  pub served_by : (old mid new : Machine) (before after : K) (request : Request) (turn : Turn) (result : Reply) → TurnsToOrWants old (answer_of (state_of old) request) turn mid →
      Finishes M mid before turn result new after → Served M (record { state = state_of old; keeper = before }) request result (record { state = state_of new; keeper = after })
  served_by old mid new before after request (Answered reply) result (inl t) f =
      serves (record { state = state_of old; keeper = before }) request result reply (state_of new) (state_of mid) after before f.0 (ap state_of f.1) f.2
      (took (record { state = state_of old; keeper = before }) request reply (state_of mid) t.step t.count)
  served_by old mid new before after request (Answered reply) result (inr t) f =
      serves (record { state = state_of old; keeper = before }) request result (Refused WantOfMemory) (state_of new) (state_of old) after before (f.0 ∙ sym (ap (λ a. a.0) t.step)) (ap state_of f.1 ∙ sym (ap (λ a. a.1) t.step)) f.2
      (starved (state_of old) before request)
  served_by old mid new before after request (Commits held reply ending) result p f =
      let next = state_from mid.shelf held (mid.commits + 1) mid.last_id (ended_at ending mid.sessions.items) in
      let count : mid.commits ≡ old.commits = ap (λ (s : State). s.commits) p.same in
      serves (record { state = state_of old; keeper = before }) request result (reply_as f.kept reply) (state_of new) (if_kept f.kept next (state_of old)) after after f.replies (f.state ∙ ap (λ (s : State). if_kept f.kept next s) p.same) refl
      (took_commit (record { state = state_of old; keeper = before }) after request reply next f.kept p.step (λ same. absurd (omega (arith, same, count)))
      (subst (λ (s : State). Leaves (told_stops M) s.catalog before (Some (commit_as f.kept next.catalog)) after) p.same f.leaves) f.told f.count f.failed)

  finish_sound : (mid new : Machine) (before after : K) (turn : Turn) (result : Reply) → IsSound mid → Finishes M mid before turn result new after → IsSound new
  finish_sound mid new before after (Answered reply) result sound f = subst (λ (m : Machine). IsSound m) (sym f.1) sound
  finish_sound mid new before after (Commits held reply ending) result sound f = f.sound

  finish_holds : (mid new : Machine) (before after : K) (turn : Turn) (result : Reply) → Holds M mid before → Finishes M mid before turn result new after → Holds M new after
  finish_holds mid new before after (Answered reply) result holds f = subst (λ (m : Machine). Holds M m after) (sym f.1) (subst (λ (k : K). Holds M mid k) (sym f.2) holds)
  finish_holds mid new before after (Commits held reply ending) result holds f = f.holds

  finish_ended : (mid new : Machine) (before after : K) (turn : Turn) (result : Reply) → IsTrue (M.ended before) → Finishes M mid before turn result new after → IsTrue (M.ended after)
  finish_ended mid new before after (Answered reply) result told f = ap M.ended f.2 ∙ told
  finish_ended mid new before after (Commits held reply ending) result told f = f.stays ∙ told

  pub kept_by : (old mid new : Machine) (before after : K) (request : Request) (turn : Turn) (result : Reply) → IsWellFormedRequest request → IsKept M old before →
      TurnsToOrWants old (answer_of (state_of old) request) turn mid → Finishes M mid before turn result new after → IsKept M new after
  kept_by old mid new before after request turn result formed kept t f = record {
    sound = finish_sound mid new before after turn result (turn-sound old mid _ turn t) f;
    valid = steps_valid (state_of old) (state_of new) request result kept.valid formed (served_by old mid new before after request turn result t f).step;
    told_all = finish_ended mid new before after turn result kept.told_all f;
    holds = finish_holds mid new before after turn result (turn-holds M old mid before _ turn t kept.holds) f;
  }

  -- what takes no memory and commits nothing is answered exactly
  pub free_by : (old mid new : Machine) (before after : K) (request : Request) (turn : Turn) (result : Reply) → TurnsTo old (answer_of (state_of old) request) turn mid →
      Finishes M mid before turn result new after → commit_of (state_of old) request result ≡ None → answer_of (state_of old) request ≡ (result, state_of new)
  free_by old mid new before after request (Answered reply) result t f none = t.step ∙ ap₂ (λ (r : Reply) (m : Machine). (r, state_of m)) (sym f.0) (sym f.1)
  free_by old mid new before after request (Commits held reply ending) result p f none =
      let made : (answer_of (state_of old) request).1.commits ≡ old.commits + 1 = ap (λ a. a.1.commits) p.step ∙ ap (λ (s : State). s.commits + 1) p.same in
      absurd (some_none _ (sym (a_commit (state_of old) request result made) ∙ none))

-- ---- what the engine's methods hand on

-- a reply in memory is a turn
pub wants-turn : (old new : Machine) (a : Reply × State) (reply : Reply) → TakesOrWants old a reply new → TurnsToOrWants old a (Answered reply) new
wants-turn old new a reply t = t

pub takes-turn : (old new : Machine) (a : Reply × State) (reply : Reply) → Takes old a reply new → TurnsToOrWants old a (Answered reply) new
takes-turn old new a reply t = inl t

-- a reply that commits nothing leaves what is kept
pub kept-takes : {K : Type 0} (M : Meanings K) (old new : Machine) (k : K) (a : Reply × State) (reply : Reply) → IsKept M old k → IsValidState (state_of new) → Takes old a reply new → IsKept M new k
kept-takes M old new k a reply kept valid t = record {
  sound = t.sound;
  valid = valid;
  told_all = kept.told_all;
  holds = turn-holds M old new k a (Answered reply) (inl t) kept.holds;
}

-- a reply that was exact stays so
pub free-step : {K : Type 0} (M : Meanings K) (old mid new : Machine) (before after : K) (a : Reply × State) (reply result : Reply) → Takes old a reply mid → Finishes M mid before (Answered reply) result new after → a ≡ (result, state_of new)
free-step M old mid new before after a reply result t f = t.step ∙ ap₂ (λ (r : Reply) (m : Machine). (r, state_of m)) (sym f.0) (sym f.1)
